-- The structs of a pair's state, from their words and as plain records of `rules`. Definitions only.
use Rattle.std.specs.Prelude.{ℕ, ◌+◌, List, None, Some, Option}
use Rattle.words.specs.Words.{mark_at}
use Rattle.rules.specs.Records.{Cache, PairFlags}
use Rattle.contact_types.specs.declared.contact_manifold.ContactRecyclingCache.{ContactRecyclingCache}
use Rattle.contact_records.specs.declared.state.ContactPairFlags.{ContactPairFlags}

unfoldable pub recorded_flags : List ℕ → ℕ → ContactPairFlags
recorded_flags xs at = record {
  touching = mark_at xs at;
  disjoint_aabb = mark_at xs (at + 1);
  started_touching = mark_at xs (at + 2);
  stopped_touching = mark_at xs (at + 3);
  generate_constraints = mark_at xs (at + 4);
  started_generating_constraints = mark_at xs (at + 5);
  static1 = mark_at xs (at + 6);
  static2 = mark_at xs (at + 7);
  modify_contacts = mark_at xs (at + 8);
}

abbrev pub flags_of : ContactPairFlags → PairFlags
flags_of f = record {
  touching = f.touching;
  disjoint_aabb = f.disjoint_aabb;
  started_touching = f.started_touching;
  stopped_touching = f.stopped_touching;
  generate_constraints = f.generate_constraints;
  started_generating = f.started_generating_constraints;
  static1 = f.static1;
  static2 = f.static2;
  modify_contacts = f.modify_contacts;
}

abbrev pub cached_of : ContactRecyclingCache → Cache
cached_of c = record { rotation1 = c.rotation1; rotation2 = c.rotation2; relative_translation = c.relative_translation; relative_rotation = c.relative_rotation }

abbrev pub cache_of : Option ContactRecyclingCache → Option Cache
cache_of (Some c) = Some (cached_of c)
cache_of None = None
