-- What an addition's and a removal's stores do to each word that a graph records. Assumes nothing.
use Rattle.std.specs.Prelude.{ℕ, ◌+◌, ◌-◌, ◌*◌, ◌≤◌, ◌<◌, ◌≡◌, refl, ◌⊎◌, ◌≢◌, Bool, true, false, List, [], ◌∷◌, eqb, ltb, length, get_or}
use Rattle.std.proofs.Common.{arith, ap, ◌∙◌, inl, inr, ltb-true, ltb-false, eqb-true}
use Rattle.std.proofs.lemmas.Bool.{eqb-false}
use Rattle.rows.specs.Rows.{put}
use Rattle.rows.specs.Slots.{slot}
use Rattle.rows.specs.SlotLaws.{slots_apart, slot_fits}
use Rattle.rows.specs.Laws.{length_put, get_d_put, get_d_put_apart}
use Rattle.words.specs.Words.{word_at}
use Rattle.layout.specs.Contact.{contact_pair_index, contact_size}
use Rattle.layout.specs.Graph.{contact_place, graph_free, graph_list}
use Rattle.contact_range.specs.Recorded.{capacity_of, given_of, listed_count, free_count, listed_at, free_at, contact_at}
use Rattle.contact_range.specs.Conditions.{RightLength}

-- ---- where a record lies in a graph of the right length
module _ {g : List ℕ} (r : RightLength g) where
  pub contact_after : (i : ℕ) → graph_list + 2 * capacity_of g ≤ contact_at g i
  contact_after i = omega arith

  pub contact_room : (i : ℕ) → i < capacity_of g → contact_at g i + contact_size ≤ length g
  contact_room i h = slot_fits (graph_list + 2 * capacity_of g) contact_size (capacity_of g) i (length g) h (omega (arith, r.size))

-- two numbers that differ, in order, and whether two are one
pub differ : (a b : ℕ) → (a ≡ b → ⊥) → (a < b) ⊎ (b < a)
differ a b n = go (ltb a b) refl
  where
    go : (t : Bool) → ltb a b ≡ t → (a < b) ⊎ (b < a)
    go true e = inl (ltb-true a b e)
    go false e = inr (let z = ltb-false a b e in omega (arith, n))

pub same_or_not : (a b : ℕ) → (a ≡ b) ⊎ (a ≢ b)
same_or_not a b = go (eqb a b) refl
  where
    go : (t : Bool) → eqb a b ≡ t → (a ≡ b) ⊎ (a ≢ b)
    go true e = inl (eqb-true a b e)
    go false e = inr (eqb-false a b e)

-- a word of one record is apart from another record
pub word_apart : (base i j o : ℕ) → i ≢ j → o < contact_size → (slot base contact_size i + o < slot base contact_size j) ⊎ (slot base contact_size j + contact_size ≤ slot base contact_size i + o)
word_apart base i j o n h =
    elim (slots_apart base contact_size i j n) [
      | inl a ↦ inl (omega arith)
      | inr a ↦ inr (omega arith)
    ]

-- ---- an addition: the record at the id, the id at the list's end, the three counts
pub record AddEffect (g h words : List ℕ) (id m n : ℕ) : Type 0 where
  pub size : length h ≡ length g
  pub capacity : capacity_of h ≡ capacity_of g
  pub given : given_of h ≡ m
  pub listed : listed_count h ≡ listed_count g + 1
  pub freed : free_count h ≡ n
  pub list : (p : ℕ) → p < listed_count g → listed_at h p ≡ listed_at g p
  pub last : listed_at h (listed_count g) ≡ id
  pub free : (k : ℕ) → k < capacity_of g → free_at h k ≡ free_at g k
  pub others : (i o : ℕ) → i < capacity_of g → i ≢ id → o < contact_size → word_at h (contact_at h i + o) ≡ word_at g (contact_at g i + o)
  pub own : (o : ℕ) → o < contact_size → word_at h (contact_at h id + o) ≡ get_or words o 0

module _ (g words : List ℕ) (id given freed : ℕ) (r : RightLength g) (below : id < capacity_of g) (room : listed_count g < capacity_of g) (full : length words ≡ contact_size) where
  abbrev recorded : List ℕ
  recorded = put g (contact_at g id) words

  abbrev listing : List ℕ
  listing = put recorded (graph_list + listed_count g) (id ∷ [])

  abbrev added : List ℕ
  added = put listing 1 (given ∷ (listed_count g + 1) ∷ freed ∷ [])

  length_listing : length listing ≡ length g
  length_listing = length_put recorded (graph_list + listed_count g) (id ∷ []) ∙ length_put g (contact_at g id) words

  long : graph_list + 2 * capacity_of g < length g
  long = let z = r.least in omega (arith, r.size)

  -- a word that no store reaches
  kept : (j : ℕ) → (j < 1) ⊎ (4 ≤ j) → (j < 4 + listed_count g) ⊎ (5 + listed_count g ≤ j) → (j < contact_at g id) ⊎ (contact_at g id + contact_size ≤ j) → word_at added j ≡ word_at g j
  kept j a b c =
      get_d_put_apart listing 1 (given ∷ (listed_count g + 1) ∷ freed ∷ []) j 0 a
      ∙ get_d_put_apart recorded (graph_list + listed_count g) (id ∷ []) j 0 (elim b [ inl x ↦ inl x | inr x ↦ inr (omega arith) ])
      ∙ get_d_put_apart g (contact_at g id) words j 0 (elim c [ inl x ↦ inl x | inr x ↦ inr (omega arith) ])

  head : (k : ℕ) → k < 3 → word_at added (1 + k) ≡ get_or (given ∷ (listed_count g + 1) ∷ freed ∷ []) k 0
  head k h = get_d_put listing 1 (given ∷ (listed_count g + 1) ∷ freed ∷ []) k 0 h (omega (arith, length_listing, long))

  capacity_kept : capacity_of added ≡ capacity_of g
  capacity_kept = kept 0 (inl (omega arith)) (inl (omega arith)) (inl (omega (arith, contact_after r id)))

  pub add_effect : AddEffect g added words id given freed
  add_effect =
      record {
        size = length_put listing 1 (given ∷ (listed_count g + 1) ∷ freed ∷ []) ∙ length_listing;
        capacity = capacity_kept;
        given = head 0 (omega arith);
        listed = head 1 (omega arith);
        freed = head 2 (omega arith);
        list = λ p h. kept (graph_list + p) (inr (omega arith)) (inl (omega arith)) (inl (omega (arith, contact_after r id)));
        last =
            get_d_put_apart listing 1 (given ∷ (listed_count g + 1) ∷ freed ∷ []) (graph_list + listed_count g) 0 (inr (omega arith))
            ∙ ap (λ (j : ℕ). word_at listing j) (let e : graph_list + listed_count g ≡ graph_list + listed_count g + 0 = omega arith in e)
            ∙ get_d_put recorded (graph_list + listed_count g) (id ∷ []) 0 0 (omega arith) (omega (arith, length_put g (contact_at g id) words, long));
        free = λ k h. ap (λ (c : ℕ). word_at added (graph_free c + k)) capacity_kept ∙ kept (graph_list + capacity_of g + k) (inr (omega arith)) (inr (omega arith)) (inl (omega (arith, contact_after r id)));
        others =
            λ i o h n l. ap (λ (c : ℕ). word_at added (contact_place c i + o)) capacity_kept
            ∙ kept (contact_at g i + o) (inr (omega (arith, contact_after r i))) (inr (omega (arith, contact_after r i))) (word_apart (graph_list + 2 * capacity_of g) i id o n l);
        own =
            λ o l. ap (λ (c : ℕ). word_at added (contact_place c id + o)) capacity_kept
            ∙ get_d_put_apart listing 1 (given ∷ (listed_count g + 1) ∷ freed ∷ []) (contact_at g id + o) 0 (inr (omega (arith, contact_after r id)))
            ∙ get_d_put_apart recorded (graph_list + listed_count g) (id ∷ []) (contact_at g id + o) 0 (inr (omega (arith, contact_after r id)))
            ∙ get_d_put g (contact_at g id) words o 0 (omega (arith, full)) (omega (arith, contact_room r id below));
      }

-- ---- a removal: the last listed id at the gap, its new place in its record, the id among the free ones, the two counts
pub record RemoveEffect (g h : List ℕ) (id p last : ℕ) : Type 0 where
  pub size : length h ≡ length g
  pub capacity : capacity_of h ≡ capacity_of g
  pub given : given_of h ≡ given_of g
  pub listed : listed_count h ≡ listed_count g - 1
  pub freed : free_count h ≡ free_count g + 1
  pub list : (q : ℕ) → q < listed_count g → q ≢ p → listed_at h q ≡ listed_at g q
  pub gap : listed_at h p ≡ last
  pub free : (k : ℕ) → k < free_count g → free_at h k ≡ free_at g k
  pub free_last : free_at h (free_count g) ≡ id
  pub words : (i o : ℕ) → i < capacity_of g → o < contact_size → (i ≡ last → o ≡ contact_pair_index → ⊥) → word_at h (contact_at h i + o) ≡ word_at g (contact_at g i + o)
  pub moved : word_at h (contact_at h last + contact_pair_index) ≡ p

-- a word of a record that is not the one at place k of record j
other_word : (base i j o k : ℕ) → o < contact_size → k < contact_size → (i ≡ j → o ≡ k → ⊥)
    → (slot base contact_size i + o < slot base contact_size j + k) ⊎ (slot base contact_size j + k + 1 ≤ slot base contact_size i + o)
other_word base i j o k h l n =
    elim (same_or_not i j) [
      | inl e ↦
          elim (differ o k (n e)) [
            | inl a ↦ inl (rw e (omega arith))
            | inr a ↦ inr (rw e (omega arith))
          ]
      | inr d ↦
          elim (slots_apart base contact_size i j d) [
            | inl a ↦ inl (omega arith)
            | inr a ↦ inr (omega arith)
          ]
    ]

module _ (g : List ℕ) (id p last : ℕ) (r : RightLength g) (here : p < listed_count g) (fits : listed_count g ≤ capacity_of g) (below : last < capacity_of g) (spare : free_count g < capacity_of g) where
  abbrev filled : List ℕ
  filled = put g (graph_list + p) (last ∷ [])

  abbrev renamed : List ℕ
  renamed = put filled (contact_at g last + contact_pair_index) (p ∷ [])

  abbrev freeing : List ℕ
  freeing = put renamed (graph_list + capacity_of g + free_count g) (id ∷ [])

  abbrev removed : List ℕ
  removed = put freeing 2 ((listed_count g - 1) ∷ (free_count g + 1) ∷ [])

  length_filled : length filled ≡ length g
  length_filled = length_put g (graph_list + p) (last ∷ [])

  length_renamed : length renamed ≡ length g
  length_renamed = length_put filled (contact_at g last + contact_pair_index) (p ∷ []) ∙ length_filled

  length_freeing : length freeing ≡ length g
  length_freeing = length_put renamed (graph_list + capacity_of g + free_count g) (id ∷ []) ∙ length_renamed

  roomy : graph_list + 2 * capacity_of g < length g
  roomy = let z = r.least in omega (arith, r.size)

  -- a word that no store reaches
  still : (j : ℕ) → (j < 2) ⊎ (4 ≤ j) → (j < 4 + capacity_of g + free_count g) ⊎ (5 + capacity_of g + free_count g ≤ j)
      → (j < contact_at g last + contact_pair_index) ⊎ (contact_at g last + contact_pair_index + 1 ≤ j) → (j < 4 + p) ⊎ (5 + p ≤ j) → word_at removed j ≡ word_at g j
  still j a b c d =
      get_d_put_apart freeing 2 ((listed_count g - 1) ∷ (free_count g + 1) ∷ []) j 0 a
      ∙ get_d_put_apart renamed (graph_list + capacity_of g + free_count g) (id ∷ []) j 0 (elim b [ inl x ↦ inl x | inr x ↦ inr (omega arith) ])
      ∙ get_d_put_apart filled (contact_at g last + contact_pair_index) (p ∷ []) j 0 (elim c [ inl x ↦ inl x | inr x ↦ inr (omega arith) ])
      ∙ get_d_put_apart g (graph_list + p) (last ∷ []) j 0 (elim d [ inl x ↦ inl x | inr x ↦ inr (omega arith) ])

  counted : (k : ℕ) → k < 2 → word_at removed (2 + k) ≡ get_or ((listed_count g - 1) ∷ (free_count g + 1) ∷ []) k 0
  counted k h = get_d_put freeing 2 ((listed_count g - 1) ∷ (free_count g + 1) ∷ []) k 0 h (omega (arith, length_freeing, roomy))

  same_capacity : capacity_of removed ≡ capacity_of g
  same_capacity = still 0 (inl (omega arith)) (inl (omega arith)) (inl (omega (arith, contact_after r last))) (inl (omega arith))

  -- the three single words, once the later stores are passed
  at_gap : word_at removed (graph_list + p) ≡ last
  at_gap =
      get_d_put_apart freeing 2 ((listed_count g - 1) ∷ (free_count g + 1) ∷ []) (graph_list + p) 0 (inr (omega arith))
      ∙ get_d_put_apart renamed (graph_list + capacity_of g + free_count g) (id ∷ []) (graph_list + p) 0 (inl (omega arith))
      ∙ get_d_put_apart filled (contact_at g last + contact_pair_index) (p ∷ []) (graph_list + p) 0 (inl (omega (arith, contact_after r last)))
      ∙ ap (λ (j : ℕ). word_at filled j) (let e : graph_list + p ≡ graph_list + p + 0 = omega arith in e)
      ∙ get_d_put g (graph_list + p) (last ∷ []) 0 0 (omega arith) (omega (arith, roomy))

  at_index : word_at removed (contact_at g last + contact_pair_index) ≡ p
  at_index =
      get_d_put_apart freeing 2 ((listed_count g - 1) ∷ (free_count g + 1) ∷ []) (contact_at g last + contact_pair_index) 0 (inr (omega (arith, contact_after r last)))
      ∙ get_d_put_apart renamed (graph_list + capacity_of g + free_count g) (id ∷ []) (contact_at g last + contact_pair_index) 0 (inr (omega (arith, contact_after r last)))
      ∙ ap (λ (j : ℕ). word_at renamed j) (let e : contact_at g last + contact_pair_index ≡ contact_at g last + contact_pair_index + 0 = omega arith in e)
      ∙ get_d_put filled (contact_at g last + contact_pair_index) (p ∷ []) 0 0 (omega arith) (omega (arith, length_filled, contact_room r last below))

  at_free : word_at removed (graph_list + capacity_of g + free_count g) ≡ id
  at_free =
      get_d_put_apart freeing 2 ((listed_count g - 1) ∷ (free_count g + 1) ∷ []) (graph_list + capacity_of g + free_count g) 0 (inr (omega arith))
      ∙ ap (λ (j : ℕ). word_at freeing j) (let e : graph_list + capacity_of g + free_count g ≡ graph_list + capacity_of g + free_count g + 0 = omega arith in e)
      ∙ get_d_put renamed (graph_list + capacity_of g + free_count g) (id ∷ []) 0 0 (omega arith) (omega (arith, length_renamed, roomy))

  pub remove_effect : RemoveEffect g removed id p last
  remove_effect =
      record {
        size = length_put freeing 2 ((listed_count g - 1) ∷ (free_count g + 1) ∷ []) ∙ length_freeing;
        capacity = same_capacity;
        given = still 1 (inl (omega arith)) (inl (omega arith)) (inl (omega (arith, contact_after r last))) (inl (omega arith));
        listed = counted 0 (omega arith);
        freed = counted 1 (omega arith);
        list =
            λ q h n. still (graph_list + q) (inr (omega arith)) (inl (omega arith)) (inl (omega (arith, contact_after r last)))
            (elim (differ q p n) [ inl x ↦ inl (omega arith) | inr x ↦ inr (omega arith) ]);
        gap = at_gap;
        free =
            λ k h. ap (λ (c : ℕ). word_at removed (graph_free c + k)) same_capacity
            ∙ still (graph_list + capacity_of g + k) (inr (omega arith)) (inl (omega arith)) (inl (omega (arith, contact_after r last))) (inr (omega arith));
        free_last = ap (λ (c : ℕ). word_at removed (graph_free c + free_count g)) same_capacity ∙ at_free;
        words =
            λ i o h l n. ap (λ (c : ℕ). word_at removed (contact_place c i + o)) same_capacity
            ∙ still (contact_at g i + o) (inr (omega (arith, contact_after r i))) (inr (omega (arith, contact_after r i)))
            (other_word (graph_list + 2 * capacity_of g) i last o contact_pair_index l (omega arith) n) (inr (omega (arith, contact_after r i)));
        moved = ap (λ (c : ℕ). word_at removed (contact_place c last + contact_pair_index)) same_capacity ∙ at_index;
      }
