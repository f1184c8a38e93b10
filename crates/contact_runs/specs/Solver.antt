-- What a solver writes between two calls, in the graph's words: one impulse of one stored point at a time. Definitions only.
-- Any word is allowed, a NaN's too: the specification has impulses of stored points any, and no refusal reads them.
use Rattle.std.specs.Prelude.{ℕ, ◌+◌, ◌*◌, Bool, cond, ◌&&◌, List, [], ◌∷◌, ltb}
use Rattle.std.specs.Float.{binary32}
use Rattle.std.specs.Float.Ieee.{of_bits}
use Rattle.rows.specs.Rows.{put}
use Rattle.rules.specs.Solver as rules
use Rattle.rules.specs.Solver.{Impulse, normal_impulse, warm_start_normal_impulse, warm_start_tangent_impulse_x, warm_start_tangent_impulse_y}
use Rattle.words.specs.Words.{word_at}
use Rattle.layout.specs.Contact.{contact_manifolds}
use Rattle.layout.specs.Manifold.{manifold_size}
use Rattle.layout.specs.Point.{point_normal_impulse, point_warm_start_normal_impulse, point_warm_start_tangent_impulse}
use Rattle.contact_range.specs.Recorded.{contact_at}
use Rattle.contact_range.specs.Range.{stands}
use Rattle.contact_graph.specs.Impulses.{stored_point_place}

-- as the plain run's, but for the float, which is given by its word
pub record Write : Type 0 where
  pub contact : ℕ
  pub manifold : ℕ
  pub point : ℕ
  pub impulse : Impulse
  pub word : ℕ

-- the word of a point that holds the impulse
abbrev pub impulse_place : Impulse → ℕ
impulse_place normal_impulse = point_normal_impulse
impulse_place warm_start_normal_impulse = point_warm_start_normal_impulse
impulse_place warm_start_tangent_impulse_x = point_warm_start_tangent_impulse
impulse_place warm_start_tangent_impulse_y = point_warm_start_tangent_impulse + 1

-- it names a stored point of a standing contact
unfoldable pub stored : List ℕ → Write → Bool
stored g w =
    let at = contact_at g w.contact + contact_manifolds in
    stands g w.contact && (ltb w.manifold (word_at g at) && ltb w.point (word_at g (at + 1 + w.manifold * manifold_size)))

abbrev pub written_place : List ℕ → Write → ℕ
written_place g w = contact_at g w.contact + stored_point_place w.manifold w.point + impulse_place w.impulse

-- one that names no stored point does nothing
unfoldable pub write_word : List ℕ → Write → List ℕ
write_word g w = cond (stored g w) (put g (written_place g w) (w.word ∷ [])) g

-- each in turn
unfoldable pub write_words : List ℕ → List Write → List ℕ
write_words g [] = g
write_words g (w ∷ ws) = write_words (write_word g w) ws

-- the same write for the plain run
abbrev pub plain_of_write : Write → rules.Write
plain_of_write w = record { contact = w.contact; manifold = w.manifold; point = w.point; impulse = w.impulse; value = of_bits binary32 w.word }
