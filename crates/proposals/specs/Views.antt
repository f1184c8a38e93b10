-- A proposed point of the code, from its words, and as a plain value of `rules`. Definitions only.
use Rattle.std.specs.Prelude.{ℕ, ◌+◌, List}
use Rattle.words.specs.Words.{float_at, vec3_at}
use Rattle.layout.specs.Proposal.{proposed_point_anchor2, proposed_point_feature2, proposed_point_features, proposed_point_penetration, proposed_point_position}
use Rattle.rules.specs.Inputs as rules
use Rattle.contact_types.specs.Features.{feature_at}
use Rattle.proposals.specs.declared.proposal.ProposedPoint.{ProposedPoint}

unfoldable pub recorded_proposed_point : List ℕ → ℕ → ProposedPoint
recorded_proposed_point xs at =
    record {
      anchor1 = vec3_at xs at;
      anchor2 = vec3_at xs (at + proposed_point_anchor2);
      point = vec3_at xs (at + proposed_point_position);
      penetration = float_at xs (at + proposed_point_penetration);
      feature_id1 = feature_at xs (at + proposed_point_features);
      feature_id2 = feature_at xs (at + proposed_point_feature2);
    }

abbrev pub proposed_of : ProposedPoint → rules.ProposedPoint
proposed_of p =
    record {
      anchor1 = p.anchor1;
      anchor2 = p.anchor2;
      point = p.point;
      penetration = p.penetration;
      feature1 = p.feature_id1.0;
      feature2 = p.feature_id2.0;
    }
