-- `trace_player::additions::play_addition` meets its contract. Assumes nothing.
use Rattle.std.specs.Prelude.{Result}
use mathlib.Core.Path.{sym, subst}
use Rattle.contact_graph.specs.Promises.{add_answer}
use Rattle.trace_player.specs.PlayLaws.{IsAdded, added_for, written_as, addition_accepted, nothing_written}
use Rattle.trace_player.proofs.additions.play_addition.Goals as goal
use Rattle.contact_types.specs.declared.refusal.Refusal.{Refusal}
use Rattle.contact_types.specs.declared.contact_id.ContactId.{ContactId}

pub returns-in-Ok : goal.returns-in-Ok
returns-in-Ok c =
    let p = added_for c.load_request.ensures c.add.ensures in
    let q = addition_accepted _ _ _ _ p (subst (λ (r : Result ContactId Refusal). IsAdded (add_answer r)) (sym c.in-Ok.is) tt) in
    record { graph = q.0; text = written_as (sym q.1) (nothing_written _) }
