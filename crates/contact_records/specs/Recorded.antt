-- What words record: a contact's record read as a plain pair of `rules`. Definitions only.
-- A mark is read as set where it is 1; an optional value's words are read only then.
use Rattle.std.specs.Prelude.{ℕ, ◌+◌, ◌-◌, ◌^◌, cond, List, ltb, ℤ, pos, negsuc, Option, None, Some}
use Rattle.rules.specs.Records.{Cache, PairFlags, Names, EdgeFlags, Pair}
use Rattle.words.specs.Words.{word_at, float_at, vec3_at, quat_at, mark_at}
use Rattle.manifold_records.specs.Recorded.{manifolds_at}
use Rattle.layout.specs.Contact.{cache_relative_rotation, cache_relative_translation, cache_rotation1, cache_rotation2, contact_body1, contact_body2, contact_cache, contact_count_change, contact_edge_flags, contact_flags, contact_manifolds, contact_speculative_distance}

-- a mark and a number
abbrev pub optional_at : List ℕ → ℕ → Option ℕ
optional_at xs at = cond (mark_at xs at) (Some (word_at xs (at + 1))) None

-- a word as a signed number, in two's complement
abbrev pub int_of : ℕ → ℤ
int_of w = cond (ltb w (2 ^ 31)) (pos w) (negsuc (2 ^ 32 - 1 - w))

unfoldable pub cache_at : List ℕ → ℕ → Option Cache
cache_at xs at =
    cond (mark_at xs at)
    (Some (record { rotation1 = quat_at xs (at + cache_rotation1); rotation2 = quat_at xs (at + cache_rotation2); relative_translation = vec3_at xs (at + cache_relative_translation); relative_rotation = quat_at xs (at + cache_relative_rotation) }))
    None

unfoldable pub flags_at : List ℕ → ℕ → PairFlags
flags_at xs at =
    record {
      touching = mark_at xs at;
      disjoint_aabb = mark_at xs (at + 1);
      started_touching = mark_at xs (at + 2);
      stopped_touching = mark_at xs (at + 3);
      generate_constraints = mark_at xs (at + 4);
      started_generating = mark_at xs (at + 5);
      static1 = mark_at xs (at + 6);
      static2 = mark_at xs (at + 7);
      modify_contacts = mark_at xs (at + 8);
    }

unfoldable pub names_at : List ℕ → ℕ → ℕ → Names
names_at xs at id =
    record {
      id = id;
      collider1 = word_at xs at;
      collider2 = word_at xs (at + 1);
      body1 = optional_at xs (at + contact_body1);
      body2 = optional_at xs (at + contact_body2);
    }

unfoldable pub edge_at : List ℕ → ℕ → EdgeFlags
edge_at xs at = record { touching = mark_at xs at; contact_events = mark_at xs (at + 1) }

-- the contact `id`, whose record begins at that place
unfoldable pub pair_at : List ℕ → ℕ → ℕ → Pair
pair_at xs at id =
    record {
      names = names_at xs at id;
      edge = edge_at xs (at + contact_edge_flags);
      flags = flags_at xs (at + contact_flags);
      manifolds = manifolds_at xs (at + contact_manifolds);
      count_change = int_of (word_at xs (at + contact_count_change));
      speculative = float_at xs (at + contact_speculative_distance);
      cache = cache_at xs (at + contact_cache);
    }
