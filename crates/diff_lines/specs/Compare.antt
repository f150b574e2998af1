-- Two lists of lines compared (02, A13): what is answered.
use Rattle.std.specs.Prelude.{◌&&◌, List, ℕ}
use Rattle.refusal.specs.Refusal.{numbers_not_rising, number_too_large, bad_kind, wrong_body_length}
use Rattle.lent_buffer.specs.Filled.{Output, require, fitted}
use Rattle.line_records.specs.Lines.{full_lines, headed_lines, rises, numbers_small, kinds_known, none_cut}
use Rattle.diff_records.specs.Difference.{differences, encoded_all}

-- 35, 14, 13, 15, 12, or the differences; of the two lists as they are lent, and the room. 35, 14 and 13 come before 15, so they look at the head of
-- a cut last line too
unfoldable pub compare_of : List ℕ → List ℕ → ℕ → Output
compare_of first second room =
    require (rises (headed_lines first) && rises (headed_lines second)) numbers_not_rising
    (require (numbers_small (headed_lines first) && numbers_small (headed_lines second)) number_too_large
    (require (kinds_known (headed_lines first) && kinds_known (headed_lines second)) bad_kind
    (require (none_cut first && none_cut second) wrong_body_length
    (fitted (encoded_all (differences (full_lines first) (full_lines second))) room))))
