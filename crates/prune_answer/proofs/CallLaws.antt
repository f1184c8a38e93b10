-- What `answer` concludes from what its calls promise. Assumes nothing.
use Rattle.std.specs.Prelude.{◌≡◌, refl, ℕ, ◌*◌, ◌≤◌, ◌<◌, Bool, true, false, cond, not, List, [], ◌∷◌, eqb, ltb, length, get_or, replicate, Err, None, Ok, IfOk, Result, ◌+◌, Some, Option}
use Rattle.std.proofs.Common.{sym, ap, ◌∙◌, arith, ltb-false, length-append, length-take, length-take-le}
use Rattle.rows.specs.Rows.{each}
use Rattle.rows.specs.Laws.{length_put}
use Rattle.std.specs.Option.{ok_or}
use Rattle.std.specs.Result.{IsErrAnd}
use Rattle.math.specs.declared.vec.Vec3.{Vec3}
use Rattle.words.specs.Words.{vec3_at}
use Rattle.rules.specs.Pruning as rules
use Rattle.contact_types.specs.Refusals.{number_of}
use Rattle.contact_types.specs.Pruned.{kept_of, kept_struct}
use Rattle.contact_types.specs.Prune.{prune_point_at, refused, keeps, prune_answer, in_struct, Pruned}
use Rattle.contact_types.specs.PruneLaws.{plain_answer, pruned_plain, kept_most}
use Rattle.contact_types.specs.declared.refusal.Refusal.{Refusal}
use Rattle.contact_types.specs.declared.refusal.Refusal.TheVariants.{WrongLength, OutOfRange, SameCollider, PairExists, GraphFull, ProposalTooLarge, InvalidShares, TooFewPoints, NoContact}
use Rattle.prune_listing.specs.declared.reader.Header.{Header}
use Rattle.prune_listing.specs.Listing.{Listing, listing}
use Rattle.prune_listing.specs.Lines.{decimal, kept_line}
use Rattle.text.specs.Text.{Written}
use Rattle.prune_listing.specs.LinesLaws.{decimal_short}
use Rattle.prune_listing.specs.Answers.{reading_of, points_of, ListingRead}
use Rattle.prune_listing.specs.ShapeLaws.{listing_shape}
use Rattle.rules.specs.Limits.{proposed_points, stored_points}
use Rattle.layout.specs.Prune.{prune_points_length}
use Rattle.prune_answer.specs.Answer.{point_of, listing_answer, lines_of, answer_text, Below, Answered}
use Rattle.prune_answer.specs.WriteLaws.{below_more}
use Rattle.prune_answer.proofs.AnswerLaws.{row_answer, kept_below}
use Rattle.contact_types.specs.declared.pruning.KeptPoints.{KeptPoints}

abbrev zeros : List ℕ
zeros = replicate prune_points_length 0

-- an unreadable text
pub unreadable_answer : (text : List ℕ) {row : List ℕ} {r : Option Header} → ListingRead text zeros row r → r ≡ None → plain_answer (Err WrongLength) ≡ listing_answer (listing text)
unfolding listing_answer
unreadable_answer text {row} {r} w e = refused_one (listing text) (sym e ∙ w.answer)
  where
    refused_one : (o : Option Listing) → None ≡ reading_of o → plain_answer (Err WrongLength) ≡ listing_answer o
    refused_one None e = refl
    refused_one (Some l) e = let z : ◌≡◌ {A = ℕ} 0 1 = cc in absurd (omega arith)

-- the refusal that is made of it, as `?` hands it on
pub unreadable_refused : (text : List ℕ) {row : List ℕ} {r : Option Header} (e : Refusal) (o : Result KeptPoints Refusal) → ListingRead text zeros row r → r ≡ None
    → ◌≡◌ {A = Result Header Refusal} (Err e) (ok_or r WrongLength) → IsErrAnd o (λ x. x ≡ e) → plain_answer o ≡ listing_answer (listing text)
unreadable_refused text e (Ok kept) w n p h = absurd h
unreadable_refused text e (Err x) w n p h =
    let q : ◌≡◌ {A = Result Header Refusal} (Err e) (Err WrongLength) = p ∙ ap (λ (o : Option Header). ok_or o WrongLength) n in
    let f : x ≡ WrongLength = cc in
    rw f (unreadable_answer text w n)

-- a text that was read: the answer of `prune` is its answer
pub read_answer : (text : List ℕ) {row : List ℕ} {r : Option Header} (h : Header) → ListingRead text zeros row r → r ≡ Some h
    → prune_answer (vec3_at h.normal 0) row h.count ≡ listing_answer (listing text)
read_answer text {row} {r} h w e = found (listing text) refl (sym e ∙ w.answer) w.stored
  where
    header : Listing → Header
    header l = record { normal = l.normal; count = length l.points }

    found : (o : Option Listing) → listing text ≡ o → Some h ≡ reading_of o → row ≡ points_of zeros o → prune_answer (vec3_at h.normal 0) row h.count ≡ listing_answer o
    found None p a s = let z : ◌≡◌ {A = ℕ} 0 1 = cc in absurd (omega arith)
    found (Some l) p a s =
        let b : h ≡ header l = cc in
        ap (λ (g : Header). prune_answer (vec3_at g.normal 0) row g.count) b ∙ ap (λ (ws : List ℕ). prune_answer (vec3_at l.normal 0) ws (length l.points)) s
        ∙ row_answer l (listing_shape text l p).fours

pub pruned_answer : (text : List ℕ) {row : List ℕ} {r : Option Header} (h : Header) {a : Result KeptPoints Refusal} → ListingRead text zeros row r → r ≡ Some h
    → Pruned (vec3_at h.normal 0) row h.count a → plain_answer a ≡ listing_answer (listing text)
pruned_answer text h w e p = pruned_plain p ∙ read_answer text h w e

-- four points are kept at most
pub few_kept : {normal : Vec3} {words : List ℕ} {count : ℕ} (a : Result KeptPoints Refusal) → Pruned normal words count a → IfOk a (λ kept. kept.count ≤ 4)
unfolding prune_answer
few_kept (Err r) p = tt
few_kept {normal} {words} {count} (Ok k) p = tested (not (eqb (length words) prune_points_length)) (ltb count (stored_points + 1)) (ltb proposed_points count) p.answer
  where
    tested : (r s t : Bool) → keeps k ≡ in_struct (cond r (refused 1) (cond s (refused 8) (cond t (refused 6) (keeps (rules.kept normal count (prune_point_at words)))))) → k.count ≤ 4
    tested true s t e = let z : ◌≡◌ {A = ℕ} 0 1 = cc in absurd (omega arith)
    tested false true t e = let z : ◌≡◌ {A = ℕ} 0 1 = cc in absurd (omega arith)
    tested false false true e = let z : ◌≡◌ {A = ℕ} 0 1 = cc in absurd (omega arith)
    tested false false false e =
        let q : k ≡ kept_struct (rules.kept normal count (prune_point_at words)) = cc in
        kept_most normal count (prune_point_at words) q

-- ---- the answer is short

lines_short : (numbers : List ℕ) → length (each kept_line numbers) ≤ 6 * length numbers
lines_short [] = omega arith
lines_short (n ∷ ns) =
    let a = length-append (kept_line n) (each kept_line ns) in
    let b = length-append (decimal n) (10 ∷ []) in
    omega (arith, lines_short ns, decimal_short n)

answer_short : (a : Result KeptPoints Refusal) → length (lines_of (plain_answer a)) ≤ 24
answer_short (Ok k) =
    let four : List ℕ = k.first ∷ k.second ∷ k.third ∷ k.fourth ∷ [] in
    omega (arith, lines_short (kept_of k), length-take k.count four)
answer_short (Err r) = omega (arith, decimal_short (number_of r), length-append (decimal (number_of r)) (10 ∷ []))

-- the lines of an answer that are those of the text
pub answered : (text out : List ℕ) (a : Result KeptPoints Refusal) {out' : List ℕ} {n : ℕ} → 24 ≤ length out → plain_answer a ≡ listing_answer (listing text)
    → Written out 0 (lines_of (plain_answer a)) out' n → Answered text out out' n
unfolding answer_text
answered text out a {out'} {n} h e w =
    let l = ap length w.stored ∙ length_put out 0 (lines_of (plain_answer a)) in
    let f : n ≤ length out' = omega (arith, w.count, answer_short a) in
    record { written = rw (← e) w; fits = f; counted = sym (length-take-le n out' f) }

-- ---- the numbers that are written have three digits at most

pub kept_small : (o : Option Listing) (numbers : List ℕ) → keeps numbers ≡ listing_answer o → Below 1000 numbers
unfolding listing_answer
kept_small None numbers e = let z : ◌≡◌ {A = ℕ} 0 1 = cc in absurd (omega arith)
kept_small (Some l) numbers e = tested (ltb (length l.points) (stored_points + 1)) (ltb proposed_points (length l.points)) refl e
  where
    kept : List ℕ
    kept = rules.kept (vec3_at l.normal 0) (length l.points) (λ k. point_of (get_or l.points k []))

    tested : (s t : Bool) → ltb proposed_points (length l.points) ≡ t → keeps numbers ≡ cond s (refused 8) (cond t (refused 6) (keeps kept)) → Below 1000 numbers
    tested true t p e = let z : ◌≡◌ {A = ℕ} 0 1 = cc in absurd (omega arith)
    tested false true p e = let z : ◌≡◌ {A = ℕ} 0 1 = cc in absurd (omega arith)
    tested false false p e =
        let q : numbers ≡ kept = cc in
        rw q
        (below_more (length l.points) 1000 kept (omega (arith, ltb-false proposed_points (length l.points) p)) (kept_below (vec3_at l.normal 0) (length l.points) (λ k. point_of (get_or l.points k []))))

pub number_small : (r : Refusal) → number_of r < 1000
number_small WrongLength = omega arith
number_small OutOfRange = omega arith
number_small SameCollider = omega arith
number_small PairExists = omega arith
number_small GraphFull = omega arith
number_small ProposalTooLarge = omega arith
number_small InvalidShares = omega arith
number_small TooFewPoints = omega arith
number_small NoContact = omega arith

-- ---- the promise determines how many bytes there are, and every lent byte

pub answer_determined : (text out : List ℕ) {out' out'' : List ℕ} {r r' : ℕ} → Answered text out out' r → Answered text out out'' r' → (r' ≡ r) × (out'' ≡ out')
answer_determined text out p q = (q.written.count ∙ sym p.written.count, q.written.stored ∙ sym p.written.stored)
