mod LeftLaws
