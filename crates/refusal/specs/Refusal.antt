-- The numbers of refusals (01, the table under 'One answer for each mark', and what 02 adds to it), each under its name.
use Rattle.std.specs.Prelude.{ℕ}

-- the mark's code is damaged
abbrev pub damaged_code : ℕ
damaged_code = 1

-- the code is reserved, clean or repaired
abbrev pub reserved_code : ℕ
reserved_code = 2

-- a line kind, and finish came before another mark
abbrev pub unfinished_line : ℕ
unfinished_line = 3

-- a line's text has the wrong length
abbrev pub wrong_length : ℕ
wrong_length = 4

-- a number byte is bad
abbrev pub bad_number : ℕ
bad_number = 5

-- a body byte is not allowed
abbrev pub bad_body : ℕ
bad_body = 6

-- the next mark's code is not end of line
abbrev pub no_end_of_line : ℕ
no_end_of_line = 7

-- end code, and the mark before is absent or not a line kind
abbrev pub end_without_line : ℕ
end_without_line = 8

-- the gap is not as laid out
abbrev pub bad_gap : ℕ
bad_gap = 9

-- an input is above 15
abbrev pub not_a_nibble : ℕ
not_a_nibble = 10

-- profile not 0 or 1, or a state failing its own stated test
abbrev pub bad_state : ℕ
bad_state = 11

-- line buffer shorter than the body; or too little room to write
abbrev pub no_room : ℕ
no_room = 12

-- kind not 1 to 5 (writer); kind above 5 (judge)
abbrev pub bad_kind : ℕ
bad_kind = 13

-- number above 4095
abbrev pub number_too_large : ℕ
number_too_large = 14

-- body of the wrong length
abbrev pub wrong_body_length : ℕ
wrong_body_length = 15

-- body byte, mean or gap byte not allowed
abbrev pub byte_not_allowed : ℕ
byte_not_allowed = 16

-- more than 255 null bytes asked for
abbrev pub too_many_nulls : ℕ
too_many_nulls = 17

-- frame: number or kind is not the one due
abbrev pub not_the_line_due : ℕ
not_the_line_due = 18

-- frame: a broken line
abbrev pub broken_line : ℕ
broken_line = 19

-- 02, A1: the file does not start with a picture's header
abbrev pub bad_header : ℕ
bad_header = 20

-- 02, A1: length of rows or file
abbrev pub wrong_picture_length : ℕ
wrong_picture_length = 21

-- 02, A1: a pixel is not 01 to FE
abbrev pub bad_pixel : ℕ
bad_pixel = 22

-- 02, A2: not a visible line
abbrev pub not_visible : ℕ
not_visible = 23

-- two-wire: a message shorter than two bytes
abbrev pub short_message : ℕ
short_message = 24

-- two-wire: the first byte is not the sensor's address, 32 or 33
abbrev pub wrong_address : ℕ
wrong_address = 25

-- two-wire: the second byte of a read is not the index and the flag held
abbrev pub wrong_index : ℕ
wrong_index = 26

-- two-wire: read data at an index up to 127 differs
abbrev pub wrong_data : ℕ
wrong_data = 27

-- two-wire: an index past 127
abbrev pub past_last_register : ℕ
past_last_register = 28

-- a setting: gain code, divisor or frame rate
abbrev pub bad_setting : ℕ
bad_setting = 29

-- saved settings: the version is not held
abbrev pub version_not_held : ℕ
version_not_held = 30

-- saved settings: no version number is left
abbrev pub no_version_left : ℕ
no_version_left = 31

-- a table of readers: the technician is not 1 or 2
abbrev pub no_such_technician : ℕ
no_such_technician = 32

-- a table of readers: all eight places are taken
abbrev pub no_place_free : ℕ
no_place_free = 33

-- a table of readers: no such place, or a free one, or another's
abbrev pub place_not_held : ℕ
place_not_held = 34

-- two lists of lines: the numbers of one don't rise strictly
abbrev pub numbers_not_rising : ℕ
numbers_not_rising = 35

-- a run that is to be explained doesn't begin with a mark
abbrev pub no_mark_first : ℕ
no_mark_first = 36

-- saved settings: the list is not eight long, or not ordered
abbrev pub not_saved_settings : ℕ
not_saved_settings = 37
