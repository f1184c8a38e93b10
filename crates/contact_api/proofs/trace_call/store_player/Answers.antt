-- `contact_api::trace_call::store_player` meets its contract. Assumes nothing.
use mathlib.Core.Path.{◌≡◌, refl}
use mathlib.Core.Bool.{Bool, true, false}
use mir.Val.{bool_byte}
use Rattle.words.specs.Words.{mark_word}
use Rattle.contact_api.specs.TraceCallLaws.{five_stored}
use Rattle.contact_api.proofs.trace_call.store_player.Goals as goal

word : (b : Bool) → bool_byte b ≡ mark_word b
word false = refl
word true = refl

pub returns : goal.returns
returns c =
    let a = c.args in
    rw (c.from-3.ensures, c.from-2.ensures, c.from.ensures, word a.p.after_point, word a.p.settings, word a.p.fits)
    (five_stored a.row.now c.requires a.p.place a.p.stretch (mark_word a.p.after_point) (mark_word a.p.settings) (mark_word a.p.fits))
