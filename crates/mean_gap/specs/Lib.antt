pub mod AwaitedGap
