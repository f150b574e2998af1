-- The layout of frames (01, 'Frames of profile 0'; 000, 'Frame Level Formatting' and 'Line Level Formatting' for the VV5300): the kind and number of each line.
use Rattle.std.specs.Prelude.{Bool, ◌&&◌, ◌||◌, List, ◌++◌, ℕ, ◌+◌, ◌-◌, eqb, ltb, get_or, replicate}
use Rattle.line_code.specs.declared.Kind.{Kind}
use Rattle.line_code.specs.declared.Kind.TheVariants.{BL, BK, VL, SOF, EOF}
use Rattle.line_code.specs.LineCode.{kind_number}
use Rattle.profile.specs.declared.Profile.{Profile}
use Rattle.profile.specs.declared.Profile.TheVariants.{VV5404, VV5300}
use Rattle.frame_layout.specs.declared.Borders.{Borders}
use Rattle.frame_layout.specs.declared.Borders.TheVariants.{On, Off}
use Rattle.frame_layout.specs.declared.Layout.{Layout}

-- visible lines from one place to another, the EOF line's place, the last place
abbrev pub borders_on : Profile → Layout
borders_on VV5404 = record { from = 10; to = 301; end = 302; last = 303 }
borders_on VV5300 = record { from = 11; to = 134; end = 145; last = 146 }

-- without border lines
abbrev pub borders_off : Profile → Layout
borders_off VV5404 = record { from = 12; to = 299; end = 300; last = 303 }
borders_off VV5300 = record { from = 13; to = 132; end = 145; last = 146 }

-- by the border setting
abbrev pub layout : Profile → Borders → Layout
layout p On = borders_on p
layout p Off = borders_off p

-- the last place, with borders on and off
abbrev pub last_place : Profile → ℕ
last_place p = (borders_on p).last

-- the place of the EOF line
abbrev pub end_place : Profile → Borders → ℕ
end_place p b = (layout p b).end

-- the place at which a VL or a BL settles the borders: the first visible line with borders on
abbrev pub settling_place : Profile → ℕ
settling_place p = (borders_on p).from

-- the kinds of the lines from one place to another, all of a kind
abbrev pub kinds_from_to : ℕ → ℕ → Kind → List Kind
kinds_from_to from to k = replicate (to + 1 - from) k

-- the kind of each line of a frame
abbrev pub kinds_of : Layout → List Kind
kinds_of l =
    kinds_from_to 0 0 SOF
    ++ (kinds_from_to 1 2 BK
    ++ (kinds_from_to 3 (l.from - 1) BL
    ++ (kinds_from_to l.from l.to VL
    ++ (kinds_from_to (l.to + 1) (l.end - 1) BL
    ++ (kinds_from_to l.end l.end EOF
    ++ kinds_from_to (l.end + 1) l.last BL)))))

-- the kind of the line at a place
unfoldable pub kind_at_place : Profile → Borders → ℕ → Kind
kind_at_place p b place = get_or (kinds_of (layout p b)) place BL

-- a line of this kind number stands at the place
abbrev pub stands_at : Profile → Borders → ℕ → ℕ → Bool
stands_at p b place k = eqb k (kind_number (kind_at_place p b place))

-- a number is due at the place: the place's own, or, after the EOF line, any (02, A3)
abbrev pub number_due : Profile → Borders → ℕ → ℕ → Bool
number_due p b place n = eqb n place || ltb (end_place p b) place

-- a line of this kind number and number is due at the place
abbrev pub due_at : Profile → Borders → ℕ → ℕ → ℕ → Bool
due_at p b place k n = stands_at p b place k && number_due p b place n
