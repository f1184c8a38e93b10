-- What a contact's words propose. A list has as many elements as its count says. Definitions only.
use Rattle.std.specs.Prelude.{ℕ, ◌+◌, ◌*◌, Bool, List, map, eqb}
use Rattle.rows.specs.Slots.{upto}
use Rattle.rules.specs.Inputs.{ProposedPoint, ProposedManifold}
use Rattle.words.specs.Words.{word_at, float_at, vec3_at}
use Rattle.layout.specs.Proposal.{proposal_count, proposal_manifolds, proposed_manifold_normal, proposed_manifold_points, proposed_manifold_size, proposed_point_anchor2, proposed_point_feature2, proposed_point_features, proposed_point_penetration, proposed_point_position, proposed_point_size}

unfoldable pub proposed_point_at : List ℕ → ℕ → ProposedPoint
proposed_point_at xs at =
    record {
      anchor1 = vec3_at xs at;
      anchor2 = vec3_at xs (at + proposed_point_anchor2);
      point = vec3_at xs (at + proposed_point_position);
      penetration = float_at xs (at + proposed_point_penetration);
      feature1 = word_at xs (at + proposed_point_features);
      feature2 = word_at xs (at + proposed_point_feature2);
    }

unfoldable pub proposed_points_at : List ℕ → ℕ → ℕ → List ProposedPoint
proposed_points_at xs at count = map (λ k. proposed_point_at xs (at + k * proposed_point_size)) (upto count)

unfoldable pub proposed_manifold_at : List ℕ → ℕ → ProposedManifold
proposed_manifold_at xs at = record { normal = vec3_at xs (at + proposed_manifold_normal); points = proposed_points_at xs (at + proposed_manifold_points) (word_at xs at) }

-- the proposal that begins at that place
unfoldable pub proposal_at : List ℕ → ℕ → List ProposedManifold
proposal_at xs at = map (λ k. proposed_manifold_at xs (at + proposal_manifolds + k * proposed_manifold_size)) (upto (word_at xs (at + proposal_count)))

-- the hook says yes
unfoldable pub hook_at : List ℕ → ℕ → Bool
hook_at xs at = eqb (word_at xs at) 1
