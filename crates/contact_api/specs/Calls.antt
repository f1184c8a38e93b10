-- The promises of the C functions: the number that each answers, and every word of the rows that it is lent. Definitions only.
-- The number is 0 or a refusal's. In a refusal every row is as it was, the one lent for the answer too.
use Rattle.std.specs.Prelude.{ℕ, ◌≡◌, cond, ◌&&◌, List, [], ◌∷◌, ◌++◌, eqb, ltb, leb, length}
use Rattle.layout.specs.Request.{request_length}
use Rattle.rules.specs.Limits.{most_contacts, stored_points}
use Rattle.words.specs.Words.{vec3_at, mark_word}
use Rattle.manifold_records.specs.Written.{padded}
use Rattle.contact_records.specs.Written.{optional_words}
use Rattle.contact_types.specs.Prune as prune
use Rattle.contact_types.specs.declared.pruning.KeptPoints.{KeptPoints}
use Rattle.contact_graph.specs.Calls.{request_of, lay_out_refusal, laid_out, add_refusal, new_id_of, added_words, id_refusal, removed_words}
use Rattle.contact_graph.specs.LookUp.{Edge, edge_of}
use Rattle.contact_graph.specs.Promises as graph
use Rattle.step.specs.Step as step
use Rattle.step.specs.Step.{Given, Rows, long, step_refusal, pass_of, rows_of}
use Rattle.contact_api.specs.Layout.{add_answer_length, step_answer_length, look_up_answer_length, prune_normal_length, prune_answer_length, lengths_length, layout_length, lengths_words, layout_words}

-- what a row holds at exit: other words where nothing is refused, else those it held
abbrev pub unless_refused : ℕ → List ℕ → List ℕ → List ℕ
unless_refused n words before = cond (eqb n 0) words before

-- ---- lay out
-- the refusal's number, or 0
abbrev pub done_number : graph.Answer → ℕ
done_number (graph.refused n) = n
done_number graph.done = 0

pub record LayOutCalled (before : List ℕ) (capacity : ℕ) (after : List ℕ) (r : ℕ) : Type 0 where
  pub number : r ≡ lay_out_refusal before capacity
  pub graph : after ≡ unless_refused (lay_out_refusal before capacity) (laid_out capacity) before

-- ---- add
-- what an answer says: the refusal's number or 0, and the row lent for the answer
abbrev pub id_number : graph.IdAnswer → ℕ
id_number (graph.refused_id n) = n
id_number (graph.added id) = 0

abbrev pub id_row : List ℕ → graph.IdAnswer → List ℕ
id_row lent (graph.refused_id n) = lent
id_row lent (graph.added id) = id ∷ []

-- 1 for a row of the function's own, then what the call refuses
unfoldable pub add_number : List ℕ → List ℕ → List ℕ → ℕ
add_number g request answer = cond (long request request_length && long answer add_answer_length) (add_refusal g (request_of request)) 1

pub record AddCalled (before request lent after lent' : List ℕ) (r : ℕ) : Type 0 where
  pub number : r ≡ add_number before request lent
  pub graph : after ≡ unless_refused (add_number before request lent) (added_words before (request_of request)) before
  pub answer : lent' ≡ unless_refused (add_number before request lent) (new_id_of before ∷ []) lent

-- ---- look up
unfoldable pub edge_words : Edge → List ℕ
edge_words e =
    e.names.id ∷ e.names.collider1 ∷ e.names.collider2
    ∷ (optional_words e.names.body1 ++ (optional_words e.names.body2 ++ (e.index ∷ mark_word e.marks.touching ∷ mark_word e.marks.contact_events ∷ [])))

abbrev pub edge_number : graph.EdgeAnswer → ℕ
edge_number (graph.refused_edge n) = n
edge_number (graph.found e) = 0

abbrev pub edge_row : List ℕ → graph.EdgeAnswer → List ℕ
edge_row lent (graph.refused_edge n) = lent
edge_row lent (graph.found e) = edge_words e

unfoldable pub look_up_number : List ℕ → ℕ → List ℕ → ℕ
look_up_number g id answer = cond (long answer look_up_answer_length) (id_refusal g id) 1

pub record LookUpCalled (g : List ℕ) (id : ℕ) (lent lent' : List ℕ) (r : ℕ) : Type 0 where
  pub number : r ≡ look_up_number g id lent
  pub answer : lent' ≡ unless_refused (look_up_number g id lent) (edge_words (edge_of g id)) lent

-- ---- remove
pub record RemoveCalled (before : List ℕ) (id : ℕ) (after : List ℕ) (r : ℕ) : Type 0 where
  pub number : r ≡ id_refusal before id
  pub graph : after ≡ unless_refused (id_refusal before id) (removed_words before id) before

-- ---- step
-- events and changes written, contacts recycled
abbrev pub report_words : step.Answer → List ℕ
report_words (step.refused n) = []
report_words (step.stepped events changes recycled) = events ∷ changes ∷ recycled ∷ []

abbrev pub report_number : step.Answer → ℕ
report_number (step.refused n) = n
report_number (step.stepped events changes recycled) = 0

abbrev pub report_row : List ℕ → step.Answer → List ℕ
report_row lent (step.refused n) = lent
report_row lent (step.stepped events changes recycled) = events ∷ changes ∷ recycled ∷ []

unfoldable pub step_number : Given → List ℕ → Rows → List ℕ → ℕ
step_number x g l answer = cond (long answer step_answer_length) (step_refusal x g l) 1

pub record StepCalled (x : Given) (g : List ℕ) (l : Rows) (lent g' : List ℕ) (l' : Rows) (lent' : List ℕ) (r : ℕ) : Type 0 where
  pub number : r ≡ step_number x g l lent
  pub graph : g' ≡ unless_refused (step_number x g l lent) (pass_of x g).graph g
  pub rows : l' ≡ cond (eqb (step_number x g l lent) 0) (rows_of x g l) l
  pub answer : lent' ≡ unless_refused (step_number x g l lent) (report_words (step.answer_of x g)) lent

-- ---- prune
-- the refusal's number, or 0
abbrev pub refusal_in : prune.Answer (List ℕ) → ℕ
refusal_in (prune.refused n) = n
refusal_in (prune.keeps ks) = 0

-- how many there are, then the numbers, 0 past them
unfoldable pub numbers_words : List ℕ → List ℕ
numbers_words ks = length ks ∷ padded stored_points ks

abbrev pub kept_words : prune.Answer (List ℕ) → List ℕ
kept_words (prune.refused n) = []
kept_words (prune.keeps ks) = numbers_words ks

-- of the struct
abbrev pub struct_words : KeptPoints → List ℕ
struct_words k = k.count ∷ k.first ∷ k.second ∷ k.third ∷ k.fourth ∷ []

abbrev pub struct_number : prune.Answer KeptPoints → ℕ
struct_number (prune.refused n) = n
struct_number (prune.keeps k) = 0

abbrev pub struct_row : List ℕ → prune.Answer KeptPoints → List ℕ
struct_row lent (prune.refused n) = lent
struct_row lent (prune.keeps k) = struct_words k

unfoldable pub prune_number : List ℕ → List ℕ → ℕ → List ℕ → ℕ
prune_number normal points count answer = cond (long normal prune_normal_length && long answer prune_answer_length) (refusal_in (prune.prune_answer (vec3_at normal 0) points count)) 1

pub record PruneCalled (normal points : List ℕ) (count : ℕ) (lent lent' : List ℕ) (r : ℕ) : Type 0 where
  pub number : r ≡ prune_number normal points count lent
  pub answer : lent' ≡ unless_refused (prune_number normal points count lent) (kept_words (prune.prune_answer (vec3_at normal 0) points count)) lent

-- ---- lengths and layout
-- 1: the length of the answer, or a capacity that is not 1 to 256
unfoldable pub lengths_number : ℕ → List ℕ → ℕ
lengths_number capacity answer = cond (long answer lengths_length && (ltb 0 capacity && leb capacity most_contacts)) 0 1

pub record LengthsCalled (capacity : ℕ) (lent lent' : List ℕ) (r : ℕ) : Type 0 where
  pub number : r ≡ lengths_number capacity lent
  pub answer : lent' ≡ unless_refused (lengths_number capacity lent) (lengths_words capacity) lent

unfoldable pub layout_number : List ℕ → ℕ
layout_number answer = cond (long answer layout_length) 0 1

pub record LayoutCalled (lent lent' : List ℕ) (r : ℕ) : Type 0 where
  pub number : r ≡ layout_number lent
  pub answer : lent' ≡ unless_refused (layout_number lent) layout_words lent
