-- The words of a plain record, 0 in places that record nothing. Definitions only.
use Rattle.std.specs.Prelude.{ℕ, ◌-◌, ◌^◌, List, [], ◌∷◌, ◌++◌, ℤ, pos, negsuc, Option, None, Some}
use Rattle.rules.specs.Graph.{Addition}
use Rattle.rules.specs.Records.{Cache, PairFlags, Names, EdgeFlags, Pair}
use Rattle.words.specs.Words.{mark_word, float_word, vec3_words, quat_words}
use Rattle.manifold_records.specs.Written.{zeros, manifolds_words}
use Rattle.layout.specs.Contact.{cache_size}

unfoldable pub optional_words : Option ℕ → List ℕ
optional_words None = 0 ∷ 0 ∷ []
optional_words (Some n) = 1 ∷ n ∷ []

-- two's complement, of a number that 32 bits hold
unfoldable pub int_word : ℤ → ℕ
int_word (pos n) = n
int_word (negsuc n) = 2 ^ 32 - 1 - n

unfoldable pub cache_words : Option Cache → List ℕ
cache_words None = zeros cache_size
cache_words (Some c) = 1 ∷ quat_words c.rotation1 ++ quat_words c.rotation2 ++ vec3_words c.relative_translation ++ quat_words c.relative_rotation

unfoldable pub flags_words : PairFlags → List ℕ
flags_words f =
    mark_word f.touching ∷ mark_word f.disjoint_aabb ∷ mark_word f.started_touching ∷ mark_word f.stopped_touching ∷ mark_word f.generate_constraints
    ∷ mark_word f.started_generating ∷ mark_word f.static1 ∷ mark_word f.static2 ∷ mark_word f.modify_contacts ∷ []

-- what the contact names, and its place in the list
unfoldable pub names_words : Names → ℕ → List ℕ
names_words n index = n.collider1 ∷ n.collider2 ∷ optional_words n.body1 ++ optional_words n.body2 ++ index ∷ []

unfoldable pub edge_words : EdgeFlags → List ℕ
edge_words e = mark_word e.touching ∷ mark_word e.contact_events ∷ []

-- what a full update writes: the pair's own words
unfoldable pub state_words : Pair → List ℕ
state_words p = flags_words p.flags ++ int_word p.count_change ∷ float_word p.speculative ∷ cache_words p.cache ++ manifolds_words p.manifolds

-- the whole record
unfoldable pub contact_words : ℕ → Pair → List ℕ
contact_words index p = names_words p.names index ++ edge_words p.edge ++ state_words p

-- of a new contact, all before its cache: colliders, bodies, the place in the list; the edge's marks; the pair's marks; count change and speculative distance
unfoldable pub new_contact_words : ℕ → Addition → List ℕ
new_contact_words index a =
    a.collider1 ∷ a.collider2 ∷ optional_words a.body1 ++ optional_words a.body2
    ++ (index ∷ 0 ∷ mark_word a.contact_events ∷ 0 ∷ 0 ∷ 0 ∷ 0 ∷ 0 ∷ 0 ∷ 0 ∷ 0 ∷ mark_word a.modify_contacts ∷ 0 ∷ float_word a.speculative ∷ [])
