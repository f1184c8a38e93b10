-- An edge made of what was read, and the promise of a look up. Assumes nothing.
use Rattle.std.specs.Prelude.{ℕ, ◌+◌, ◌≡◌, Bool, true, false, List, eqb, Err, Ok, Option}
use Rattle.std.proofs.Common.{ap, ◌∙◌}
use Rattle.contact_types.specs.declared.refusal.Refusal.TheVariants.{WrongLength, OutOfRange, NoContact}
use Rattle.words.specs.Words.{word_at, if_marked}
use Rattle.contact_records.specs.Recorded.{names_at, edge_at}
use Rattle.collider.specs.Recorded.{number_if_at}
use Rattle.contact_graph.specs.CallLaws.{id_length, id_range, id_none, id_found}
use Rattle.contact_graph.specs.LookUp.{edge_value, edge_in, EdgeLoaded}
use Rattle.contact_graph.specs.Promises.{LookedUp, found}
use Rattle.contact_types.specs.declared.contact_id.ContactId.{ContactId}
use Rattle.contact_range.specs.Range.{right_length, in_range, stands}
use Rattle.contact_range.specs.Recorded.{contact_at}
use Rattle.contact_graph.specs.declared.call.ContactEdge.{ContactEdge}

pub edge_made : (g : List ℕ) (at : ℕ) (id : ContactId) {c1 c2 n : ℕ} {b1 b2 : Option ℕ} {t e : Bool}
    → c1 ≡ word_at g at → c2 ≡ word_at g (at + 1) → b1 ≡ number_if_at g (at + 2) → b2 ≡ number_if_at g (at + 4) → n ≡ word_at g (at + 6)
    → t ≡ eqb (word_at g (at + 7)) 1 → e ≡ eqb (word_at g (at + 7 + 1)) 1
    → EdgeLoaded g at id.0 (record { id = id; collider1 = c1; collider2 = c2; body1 = b1; body2 = b2; pair_index = n; touching = t; contact_events = e })
unfolding edge_value edge_in names_at edge_at if_marked
edge_made g at id a b c d n t e =
    record {
      edge = λ i. record {
        names = record { id = id.0; collider1 = a i; collider2 = b i; body1 = c i; body2 = d i };
        marks = record { touching = t i; contact_events = e i };
        index = n i;
      };
    }

module _ (g : List ℕ) (id : ℕ) where
  pub look_up_length : right_length g ≡ false → LookedUp g id (Err WrongLength)
  look_up_length p = let e = id_length g id p in record { answer = rw e }

  pub look_up_range : right_length g ≡ true → in_range g ≡ false → LookedUp g id (Err OutOfRange)
  look_up_range p q = let e = id_range g id p q in record { answer = rw e }

  pub look_up_none : right_length g ≡ true → in_range g ≡ true → stands g id ≡ false → LookedUp g id (Err NoContact)
  look_up_none p q s = let e = id_none g id p q s in record { answer = rw e }

  pub look_up_found : {at : ℕ} {r : ContactEdge} → right_length g ≡ true → in_range g ≡ true → stands g id ≡ true → at ≡ contact_at g id → EdgeLoaded g at id r → LookedUp g id (Ok r)
  look_up_found p q s a f = let e = id_found g id p q s in record { answer = ap found (f.edge ∙ ap (λ (n : ℕ). edge_in g n id) a) ∙ rw e }
