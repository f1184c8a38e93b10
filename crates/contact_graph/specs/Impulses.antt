-- What a solver may write between two calls: impulses of stored points, in the words and in the plain graph. Definitions only.
use Rattle.std.specs.Prelude.{ℕ, ◌+◌, ◌*◌, ◌≤◌, ◌<◌, ◌≡◌, ◌≢◌, true, List, map, length}
use Rattle.rules.specs.Graph.{Graph}
use Rattle.rule_laws.specs.Stripped.{stripped}
use Rattle.words.specs.Words.{word_at}
use Rattle.layout.specs.Contact.{contact_manifolds}
use Rattle.layout.specs.Manifold.{manifold_points, manifold_size}
use Rattle.layout.specs.Point.{point_normal_impulse, point_normal_speed, point_size, point_warm_start_tangent_impulse}
use Rattle.contact_range.specs.Recorded.{contact_at}
use Rattle.contact_range.specs.Range.{stands}

-- ---- in the words
-- where point k of manifold m begins in the record of a contact
abbrev pub stored_point_place : ℕ → ℕ → ℕ
stored_point_place m k = contact_manifolds + 1 + m * manifold_size + manifold_points + k * point_size

-- Word j is an impulse of a stored point of a standing contact: word 11, 13, 14 or 15 of the point
-- (normal impulse, warm start normal impulse, warm start tangent impulse; 12 is the normal speed).
pub record ImpulseAt (g : List ℕ) (j : ℕ) : Type 0 where
  pub contact : ℕ
  pub manifold : ℕ
  pub point : ℕ
  pub word : ℕ
  pub standing : stands g contact ≡ true
  pub counted : manifold < word_at g (contact_at g contact + contact_manifolds)
  pub stored : point < word_at g (contact_at g contact + contact_manifolds + 1 + manifold * manifold_size)
  pub least : point_normal_impulse ≤ word
  pub most : word ≤ point_warm_start_tangent_impulse + 1
  pub unlike : word ≢ point_normal_speed
  pub place : j ≡ contact_at g contact + stored_point_place manifold point + word

-- h is g with other impulses, or some
pub record ImpulsesWritten (g h : List ℕ) : Type 0 where
  pub size : length h ≡ length g
  pub rest : (j : ℕ) → (ImpulseAt g j → ⊥) → word_at h j ≡ word_at g j

-- ---- in the plain graph
-- two graphs are the same but for impulses
pub record SameButImpulses (g h : Graph) : Type 0 where
  pub capacity : h.capacity ≡ g.capacity
  pub given : h.given ≡ g.given
  pub free : h.free ≡ g.free
  pub pairs : map stripped h.pairs ≡ map stripped g.pairs
