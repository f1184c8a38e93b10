-- How many words a record has: whatever it holds, since lists are cut and filled up. Assumes nothing.
use Rattle.std.specs.Prelude.{◌≡◌, refl, ℕ, List, ◌∷◌, ◌++◌, length, get_or, Option, None, Some}
use Rattle.std.proofs.Common.{arith, length-append}
use Rattle.rules.specs.Records.{Cache, PairFlags, Names, EdgeFlags, Pair}
use Rattle.manifold_records.specs.LengthLaws.{length_manifolds}
use Rattle.manifold_records.specs.ListLaws.{length_zeros}
use Rattle.layout.specs.Contact.{cache_size, contact_size}
use Rattle.contact_records.specs.Written.{optional_words, cache_words, flags_words, names_words, edge_words, state_words, contact_words}

pub length_cache : (c : Option Cache) → length (cache_words c) ≡ cache_size
unfolding cache_words
length_cache None = length_zeros 16
length_cache (Some c) = refl

pub length_flags : (f : PairFlags) → length (flags_words f) ≡ 9
unfolding flags_words
length_flags f = refl

pub length_optional : (n : Option ℕ) → length (optional_words n) ≡ 2
unfolding optional_words
length_optional None = refl
length_optional (Some n) = refl

pub length_names : (n : Names) (index : ℕ) → length (names_words n index) ≡ 7
unfolding names_words
length_names n index = simp length-append (omega (arith, length_optional n.body1, length_optional n.body2))

pub length_edge : (e : EdgeFlags) → length (edge_words e) ≡ 2
unfolding edge_words
length_edge e = refl

pub length_state : (p : Pair) → length (state_words p) ≡ 514
unfolding state_words
length_state p = simp length-append (omega (arith, length_flags p.flags, length_cache p.cache, length_manifolds p.manifolds))

pub length_contact : (index : ℕ) (p : Pair) → length (contact_words index p) ≡ contact_size
unfolding contact_words
length_contact index p = simp length-append (omega (arith, length_names p.names index, length_edge p.edge, length_state p))

-- an optional number's two words, one by one
pub optional_words_lem : (o : Option ℕ) (ws : List ℕ) → get_or (optional_words o) 0 0 ∷ get_or (optional_words o) 1 0 ∷ ws ≡ optional_words o ++ ws
unfolding optional_words
optional_words_lem None ws = refl
optional_words_lem (Some n) ws = refl
