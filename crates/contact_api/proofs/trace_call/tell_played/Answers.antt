-- `contact_api::trace_call::tell_played` meets its contract. Assumes nothing.
use Rattle.std.proofs.Common.{refl}
use Rattle.contact_api.proofs.trace_call.tell_played.Goals as goal

pub store_player-requires : goal.store_player-requires
store_player-requires c = c.requires.0

pub store_answer-requires : goal.store_answer-requires
store_answer-requires c = c.requires.1

pub returns-in-Some : goal.returns-in-Some
returns-in-Some c = rw c.in-Some.is (record { number = refl; player = c.store_player.ensures; answer = c.store_answer.ensures })

pub returns-in-None : goal.returns-in-None
returns-in-None c = rw c.in-None.is (record { number = refl; player = refl; answer = c.store_answer-in-None.ensures })
