-- Two lists of an addition and two steps on a graph of capacity 1. In the first, body 2 of the contact is not named, and the contact ends its touch.
-- In the second, a collider becomes a sensor while the contact touches. Definitions only.
use Rattle.std.specs.Prelude.{ℕ, ◌-◌, ◌*◌, List, [], ◌∷◌, ◌++◌}
use Rattle.std.specs.Float.Ieee.{of_bits}
use Rattle.std.specs.Float.{binary32}
use Rattle.layout.specs.Body.{bodies_length, body_size}
use Rattle.layout.specs.Collider.{collider_size, colliders_length}
use Rattle.layout.specs.Proposal.{proposal_manifolds, proposal_size, proposed_manifold_points, proposed_point_size}
use Rattle.manifold_records.specs.Written.{zeros}
use Rattle.contact_graph.specs.declared.call.Request.{Request}
use Rattle.step.specs.Step.{Given, Rows}
use Rattle.contact_runs.specs.Runs.{Entry, addition, stepping}

abbrev pub one : ℕ
one = 0x3f80_0000

-- a collider that is there, with that body and a box from 0 to 1; the last word is the mark of a sensor
unfoldable pub collider_words : ℕ → ℕ → List ℕ
collider_words body sensor = 1 ∷ 1 ∷ body ∷ 0 ∷ 0 ∷ 0 ∷ one ∷ one ∷ one ∷ 0 ∷ 0 ∷ 0 ∷ 1 ∷ 1 ∷ 0 ∷ 0 ∷ 0 ∷ 0 ∷ 0 ∷ 0 ∷ 0 ∷ 0 ∷ sensor ∷ []

-- colliders 0 and 1 lie at the same place
unfoldable pub colliders : ℕ → List ℕ
colliders sensor = collider_words 0 0 ++ collider_words 1 sensor ++ zeros (colliders_length - 2 * collider_size)

-- a body that is there, at rest at the origin
unfoldable pub body_words : List ℕ
body_words = 1 ∷ 0 ∷ 0 ∷ 0 ∷ 0 ∷ 0 ∷ 0 ∷ 0 ∷ one ∷ zeros (body_size - 9)

unfoldable pub bodies : List ℕ
bodies = body_words ++ body_words ++ zeros (bodies_length - 2 * body_size)

-- recycle distance 0: no pair is recycled (rule 4). The matching setting is not named
unfoldable pub settings : List ℕ
settings = 0x3c88_8889 ∷ one ∷ 0x3ba3_d70a ∷ 0 ∷ 0x3f7a_e148 ∷ 1 ∷ 0x3f00_0000 ∷ 1 ∷ 0 ∷ 1 ∷ 0 ∷ 0 ∷ []

-- that many manifolds, at most one: of one point, 0.1 deep
unfoldable pub proposals : ℕ → List ℕ
proposals count = 1 ∷ count ∷ 1 ∷ one ∷ 0 ∷ 0 ∷ 0 ∷ 0 ∷ 0 ∷ 0 ∷ 0 ∷ 0 ∷ 0 ∷ 0 ∷ 0 ∷ 0x3dcc_cccd ∷ 0 ∷ 0 ∷ zeros (proposal_size - proposal_manifolds - proposed_manifold_points - proposed_point_size)

-- collider 1 a sensor or not, so many manifolds proposed; one worker has contact 0
unfoldable pub given : ℕ → ℕ → Given
given sensor count =
    record {
      settings = settings;
      colliders = colliders sensor;
      bodies = bodies;
      proposals = proposals count;
      shares = 1 ∷ 1 ∷ 0 ∷ 0 ∷ 0 ∷ 0 ∷ 0 ∷ 0 ∷ 0 ∷ 0 ∷ [];
    }

unfoldable pub rows : Rows
rows = record { bits = zeros 8; events = zeros 8; changes = zeros 5; distances = zeros 1 }

-- body 1 is named; body 2 is where the mark is 1
unfoldable pub request : ℕ → Request
request named =
    record {
      collider1 = 0;
      collider2 = 1;
      has_body1 = 1;
      body1 = 0;
      has_body2 = named;
      body2 = 1;
      contact_events = 1;
      modify_contacts = 0;
      speculative_distance = of_bits binary32 0;
    }

-- both touch in the first step
abbrev pub touch_then : ℕ → Given → List Entry
touch_then named x = addition (request named) ∷ stepping (given 0 1) rows ∷ stepping x rows ∷ []

-- body 2 is not named; in the second step nothing is proposed
abbrev pub unnamed : List Entry
unnamed = touch_then 0 (given 0 0)

-- in the second step collider 1 is a sensor
abbrev pub sensing : List Entry
sensing = touch_then 1 (given 1 1)
