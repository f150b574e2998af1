-- The words of each reason.
use Rattle.why_words.specs.ReasonWords.{explained_words}
use borrow.Author.Rules.{rules}
use Rattle.why_words.proofs.put_explained.Goals as goal

pub returns-in-GoodLine : goal.returns-in-GoodLine
unfolding explained_words
returns-in-GoodLine c =
    simp c.in-GoodLine.is c.put_line.ensures

pub returns-in-GoodGap : goal.returns-in-GoodGap
unfolding explained_words
returns-in-GoodGap c =
    simp c.in-GoodGap.is c.put_good_gap.ensures

pub returns-in-DamagedCode : goal.returns-in-DamagedCode
unfolding explained_words
returns-in-DamagedCode c =
    simp c.in-DamagedCode.is c.put_damaged.ensures

pub returns-in-ReservedCode : goal.returns-in-ReservedCode
unfolding explained_words
returns-in-ReservedCode c =
    simp c.in-ReservedCode.is c.put_reserved.ensures

pub returns-in-UnfinishedLine : goal.returns-in-UnfinishedLine
unfolding explained_words
returns-in-UnfinishedLine c =
    simp c.in-UnfinishedLine.is c.put_unfinished.ensures

pub returns-in-WrongLength : goal.returns-in-WrongLength
unfolding explained_words
returns-in-WrongLength c =
    simp c.in-WrongLength.is c.put_length.ensures

pub returns-in-BadNumber : goal.returns-in-BadNumber
unfolding explained_words
returns-in-BadNumber c =
    simp c.in-BadNumber.is c.put_bad_byte.ensures

pub returns-in-BadBody : goal.returns-in-BadBody
unfolding explained_words
returns-in-BadBody c =
    simp c.in-BadBody.is c.put_bad_byte-in-BadBody.ensures

pub returns-in-NoEndOfLine : goal.returns-in-NoEndOfLine
unfolding explained_words
returns-in-NoEndOfLine c =
    simp c.in-NoEndOfLine.is c.put_end.ensures

pub returns-in-EndWithoutLine : goal.returns-in-EndWithoutLine
unfolding explained_words
returns-in-EndWithoutLine c =
    simp c.in-EndWithoutLine.is c.put.ensures

pub returns-in-BadGap : goal.returns-in-BadGap
unfolding explained_words
returns-in-BadGap c =
    simp c.in-BadGap.is c.put_counted.ensures

pub returns-in-ShortGap : goal.returns-in-ShortGap
unfolding explained_words
returns-in-ShortGap c =
    simp c.in-ShortGap.is c.put_counted-in-ShortGap.ensures

pub returns-in-Refused : goal.returns-in-Refused
unfolding explained_words
returns-in-Refused c =
    simp c.in-Refused.is c.put_refused.ensures
