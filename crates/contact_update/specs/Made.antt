-- An update that ends with rule 1, 2 or 5, and one that goes on to rule 4. Definitions only.
use Rattle.std.specs.Prelude.{Bool, true, false, List}
use Rattle.math.specs.Constants.{zero_f}
use Rattle.rules.specs.Inputs.{Settings, Collider, ProposedManifold}
use Rattle.rules.specs.Records.{Cache, Pair}
use Rattle.rules.specs.Recycling.{recycles}
use Rattle.rules.specs.Sides.{Side}
use Rattle.rules.specs.Update.{skipped, aabbs_disjoint, recycled, Updated, disjoint, recycled_pair, overlapping}

abbrev pub skipped_update : Pair → Updated
skipped_update p = record { pair = p; way = skipped; bit = false; max_contact_distance = zero_f }

abbrev pub disjoint_update : Pair → Updated
disjoint_update p = record { pair = disjoint p; way = aabbs_disjoint; bit = true; max_contact_distance = zero_f }

abbrev pub recycled_update : Side → Side → Cache → Pair → Updated
recycled_update a b k p = record { pair = recycled_pair a b k p; way = recycled; bit = false; max_contact_distance = zero_f }

abbrev pub overlapped : Settings → Bool → List ProposedManifold → Collider → Collider → Side → Side → Pair → Updated
overlapped s answer proposal c1 c2 a b p = overlapping s answer proposal c1 c2 a b p (recycles s p.flags.touching a b p.cache) p.cache
