-- The kinds of a frame's lines as ranges of places: what the code's private functions compute.
use Rattle.std.specs.Prelude.{cond, ℕ, eqb, leb, ltb}
use Rattle.line_code.specs.declared.Kind.{Kind}
use Rattle.line_code.specs.declared.Kind.TheVariants.{BL, BK, VL, SOF, EOF}
use Rattle.frame_layout.specs.declared.Layout.{Layout}

-- the kind at a place of a layout
unfoldable pub kind_within : Layout → ℕ → Kind
kind_within l place =
    cond (ltb place 1) SOF (cond (ltb place 3) BK (cond (ltb place l.from) BL (cond (leb place l.to) VL (cond (eqb place l.end) EOF BL))))
