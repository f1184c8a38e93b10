-- C1 of the specification, from its text to the lines that it prints. Assumes nothing.
use Rattle.std.specs.Prelude.{◌≡◌, [], ◌∷◌, Option}
use Rattle.std.proofs.Common.{ap}
use Rattle.std.specs.Float.Ieee.{of_bits, lt, is_nan, add, sub, mul}
use Rattle.math.specs.Choose.{maximum}
use Rattle.math.specs.Vec.{◌-v◌, ◌*v◌, dot, cross, squared_length, squared_distance, reject}
use Rattle.rules.specs.Numbers.{leader}
use Rattle.rules.specs.Pruning.{projected, weight, point1, point2, side_value, point3, point4, kept_beside, kept_from, kept}
use Rattle.prune_listing.specs.Listing.{Listing}
use Rattle.prune_listing.specs.Lines.{decimal}
use Rattle.prune_listing.specs.CaseLaws.{c1, c1_reads}
use Rattle.prune_answer.specs.Answer.{listing_answer, lines_of, answer_text}

pub c1_answer : answer_text c1 ≡ 75 ∷ 9 ∷ 48 ∷ 10 ∷ 75 ∷ 9 ∷ 51 ∷ 10 ∷ 75 ∷ 9 ∷ 49 ∷ 10 ∷ 75 ∷ 9 ∷ 50 ∷ 10 ∷ []
unfolding answer_text listing_answer decimal kept kept_from kept_beside point1 point2 point3 point4 side_value weight projected leader maximum ◌-v◌ ◌*v◌ dot cross squared_length squared_distance reject of_bits lt is_nan add sub mul
c1_answer = ap (λ (o : Option Listing). lines_of (listing_answer o)) c1_reads
