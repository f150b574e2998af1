-- By the way: the place of a pixel, or the pixel at a place, as the two functions promise.
use Rattle.pixel_order.proofs.Way.source.Goals as goal

pub returns-in-ToPixels : goal.returns-in-ToPixels
returns-in-ToPixels c = simp (c.in-ToPixels.is, c.place_of.ensures)

pub returns-in-ToBody : goal.returns-in-ToBody
returns-in-ToBody c = simp (c.in-ToBody.is, c.pixel_at.ensures)
