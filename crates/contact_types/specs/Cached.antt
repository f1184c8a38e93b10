-- The poses that a cache's words record. Definitions only.
use Rattle.std.specs.Prelude.{ℕ, ◌+◌, List}
use Rattle.words.specs.Words.{vec3_at, quat_at}
use Rattle.layout.specs.Contact.{cache_relative_rotation, cache_relative_translation, cache_rotation1, cache_rotation2}
use Rattle.contact_types.specs.declared.contact_manifold.ContactRecyclingCache.{ContactRecyclingCache}

-- the record at a place, whose presence mark is set
abbrev pub recorded_cache : List ℕ → ℕ → ContactRecyclingCache
recorded_cache xs at =
    record {
      rotation1 = quat_at xs (at + cache_rotation1);
      rotation2 = quat_at xs (at + cache_rotation2);
      relative_translation = vec3_at xs (at + cache_relative_translation);
      relative_rotation = quat_at xs (at + cache_relative_rotation);
    }
