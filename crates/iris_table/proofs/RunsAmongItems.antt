-- A run of items goes into a directory, or out of one, and an item's file is changed.
use Rattle.std.proofs.Common.{◌≡◌, ◌≢◌, inl, inr, ℕ, suc, ◌+◌, ◌<◌, ◌≤◌, List, [], ◌∷◌, ◌++◌, take, drop, map, Bool, true, false, cond, refl, sym, ◌∙◌, ap, subst, arith}
use Rattle.std.proofs.lemmas.List.{take-append-drop}
use Rattle.std.specs.Str.{bytes_eq}
use Rattle.iris_plain.specs.Routes.{is_name_before}
use Rattle.iris_rows.specs.declared.item.Item.{Item}
use Rattle.iris_rows.specs.Items.{grown, kept_file}
use Rattle.iris_rows.specs.Rows.{File, End, Row, Taken, with_row, without_row, on_file, file_at}
use Rattle.iris_table.specs.Stops.{deeper, room, relabelled, AreDeeper, IsFiled}
use Rattle.iris_rows.proofs.GrownRows.{lt_true, lt_false, compared, row_of, grown_higher, grown_deeper, grown_here}
use Rattle.iris_table.proofs.ForestChange.{IsChange, change_deeper, change_beside}

-- the items that lie deeper: how many, and the first that doesn't
module _ (d : ℕ) (x : Item) (xs : List Item) where
  deeper_more : d < x.depth → deeper d (x ∷ xs) ≡ suc (deeper d xs)
  deeper_more h = rw (lt_true d x.depth h) refl

  deeper_none : x.depth ≤ d → deeper d (x ∷ xs) ≡ 0
  deeper_none h = rw (lt_false d x.depth h) refl

-- a fact for what follows a run, item by item
module _ (P : List Item → Type 0) (d : ℕ) (none : P []) (low : (x : Item) (xs : List Item) → x.depth ≤ d → P (x ∷ xs)) where
  pub past_run : (xs : List Item) → P (drop (deeper d xs) xs)
  past_run [] = none
  past_run (x ∷ xs) = elim (compared d x.depth) [
    | inl l ↦ let Q : ℕ → Type 0 = λ k. P (drop k (x ∷ xs)) in subst Q (sym (deeper_more d x xs l)) (past_run xs)
    | inr r ↦ let Q : ℕ → Type 0 = λ k. P (drop k (x ∷ xs)) in subst Q (sym (deeper_none d x xs (elim r [ inl l ↦ omega arith | inr e ↦ omega arith ]))) (low x xs (elim r [ inl l ↦ omega arith | inr e ↦ omega arith ]))
  ]

-- what follows a run has no rows deeper than it
pub run_ends : (d e : ℕ) (xs : List Item) → d < e → grown e (drop (deeper d xs) xs) ≡ End
run_ends d e xs h = past_run (λ ys. grown e ys ≡ End) d refl (λ x ys l. grown_higher e x ys (omega arith)) xs

-- the rows at this depth or a lesser one don't see the run
pub run_skipped : (d e : ℕ) (xs : List Item) → e ≤ d → grown e (drop (deeper d xs) xs) ≡ grown e xs
run_skipped d e [] h = refl
run_skipped d e (x ∷ xs) h = elim (compared d x.depth) [
  | inl l ↦ ap (λ k. grown e (drop k (x ∷ xs))) (deeper_more d x xs l) ∙ run_skipped d e xs h ∙ sym (grown_deeper e x xs (omega arith))
  | inr r ↦ ap (λ k. grown e (drop k (x ∷ xs))) (deeper_none d x xs (elim r [ inl l ↦ omega arith | inr e ↦ omega arith ]))
]

-- a run is deeper
pub run_deeper : (d : ℕ) (xs : List Item) → AreDeeper d (take (deeper d xs) xs)
run_deeper d [] = tt
run_deeper d (x ∷ xs) = let Q : ℕ → Type 0 = λ k. AreDeeper d (take k (x ∷ xs)) in elim (compared d x.depth) [
  | inl l ↦ subst Q (sym (deeper_more d x xs l)) (l, run_deeper d xs)
  | inr r ↦ subst Q (sym (deeper_none d x xs (elim r [ inl l ↦ omega arith | inr e ↦ omega arith ]))) tt
]

-- deeper items in front leave the rows at this depth
pub after_deeper : (d e : ℕ) (rs xs : List Item) → AreDeeper d rs → e ≤ d → grown e (rs ++ xs) ≡ grown e xs
after_deeper d e [] xs a h = refl
after_deeper d e (r ∷ rs) xs a h = grown_deeper e r (rs ++ xs) (omega (arith, a.0)) ∙ after_deeper d e rs xs a.1 h

-- what has no rows deeper than this leaves those of the items in front of it
pub before_higher : (d : ℕ) (rs xs : List Item) → ((e : ℕ) → d < e → grown e xs ≡ End) → (e : ℕ) → d < e → grown e (rs ++ xs) ≡ grown e rs
before_higher d [] xs low e h = low e h
before_higher d (r ∷ rs) xs low e h = elim (compared r.depth e) [
  | inl l ↦ grown_higher e r (rs ++ xs) l ∙ sym (grown_higher e r rs l)
  | inr s ↦ elim s [
    | inl l ↦ grown_deeper e r (rs ++ xs) l ∙ before_higher d rs xs low e h ∙ sym (grown_deeper e r rs l)
    | inr t ↦ grown_here e r (rs ++ xs) t ∙ ap (λ z. row_of r z (grown e (rs ++ xs))) (before_higher d rs xs low (e + 1) (omega arith)) ∙ ap (row_of r (grown (e + 1) rs)) (before_higher d rs xs low e h) ∙ sym (grown_here e r rs t)
  ]
]

-- the rows of a run by itself
pub run_rows : (d e : ℕ) (xs : List Item) → d < e → grown e (take (deeper d xs) xs) ≡ grown e xs
run_rows d e xs h = sym (before_higher d (take (deeper d xs) xs) (drop (deeper d xs) xs) (λ f l. run_ends d f xs l) e h) ∙ ap (grown e) (take-append-drop (deeper d xs) xs)

-- out of the directory
pub taken_out : (d : ℕ) (n : List ℕ) (i : Item) (xs : List Item) → i.depth ≡ d → bytes_eq n i.name ≡ true → IsChange d (without_row n) (i ∷ xs) (drop (deeper d xs) xs)
unfolding row_of
taken_out d n i xs h b = record {
  rows = run_skipped d d xs (omega arith) ∙ (let x : without_row n (row_of i (grown (d + 1) xs) (grown d xs)) ≡ grown d xs = rw b refl in sym x) ∙ ap (without_row n) (sym (grown_here d i xs h));
  others = λ e ne. elim (compared e d) [
    | inl l ↦ run_skipped d e xs (omega arith) ∙ sym (grown_deeper e i xs (omega arith))
    | inr r ↦ run_ends d e xs (elim r [ inl l ↦ l | inr s ↦ absurd (ne s) ]) ∙ sym (grown_higher e i xs (elim r [ inl l ↦ omega arith | inr s ↦ absurd (ne s) ]))
  ];
}

-- a row with those inside it
abbrev pub taken_of : Item → List Item → Taken
taken_of r rs = record { id = r.id.0; file = kept_file r.file; inside = grown (r.depth + 1) rs }

-- in before items that lie no deeper
module _ (d : ℕ) (r : Item) (rs : List Item) (here : r.depth ≡ d) (deep : AreDeeper d rs) where
  in_front : (xs : List Item) → ((e : ℕ) → d < e → grown e xs ≡ End) → grown d ((r ∷ rs) ++ xs) ≡ row_of r (grown (r.depth + 1) rs) (grown d xs)
  in_front xs low = grown_here d r (rs ++ xs) here ∙ ap (λ z. row_of r z (grown d (rs ++ xs))) (before_higher d rs xs low (d + 1) (omega arith)) ∙ ap (row_of r (grown (d + 1) rs)) (after_deeper d d rs xs deep (omega arith)) ∙ ap (λ z. row_of r (grown (z + 1) rs) (grown d xs)) (sym here)

  in_front_others : (xs : List Item) → ((e : ℕ) → d < e → grown e xs ≡ End) → (e : ℕ) → e ≢ d → grown e ((r ∷ rs) ++ xs) ≡ grown e xs
  in_front_others xs low e ne = elim (compared e d) [
    | inl l ↦ grown_deeper e r (rs ++ xs) (omega arith) ∙ after_deeper d e rs xs deep (omega arith)
    | inr s ↦ grown_higher e r (rs ++ xs) (elim s [ inl l ↦ omega arith | inr t ↦ absurd (ne t) ]) ∙ sym (low e (elim s [ inl l ↦ l | inr t ↦ absurd (ne t) ]))
  ]

  first_put : (xs : List Item) → ((e : ℕ) → d < e → grown e xs ≡ End) → with_row r.name (taken_of r rs) (grown d xs) ≡ row_of r (grown (r.depth + 1) rs) (grown d xs) → IsChange d (with_row r.name (taken_of r rs)) xs ((r ∷ rs) ++ xs)
  first_put xs low e = record { rows = in_front xs low ∙ sym e; others = in_front_others xs low }

  abbrev with_run : List Item → ℕ → List Item
  with_run xs k = take k xs ++ ((r ∷ rs) ++ drop k xs)

  pub put_in : (xs : List Item) → IsChange d (with_row r.name (taken_of r rs)) xs (with_run xs (room d r.name xs))
  unfolding row_of
  put_in [] = first_put [] (λ e h. refl) refl
  put_in (x ∷ xs) = elim (compared x.depth d) [
    | inl l ↦ let k : room d r.name (x ∷ xs) ≡ 0 = rw (lt_true x.depth d l) refl in let Q : ℕ → Type 0 = λ k. IsChange d (with_row r.name (taken_of r rs)) (x ∷ xs) (with_run (x ∷ xs) k) in
        subst Q (sym k) (first_put (x ∷ xs) (λ e h. grown_higher e x xs (omega arith)) (ap (with_row r.name (taken_of r rs)) (grown_higher d x xs l) ∙ ap (row_of r (grown (r.depth + 1) rs)) (sym (grown_higher d x xs l))))
    | inr s ↦ elim s [
      | inl l ↦ let k : room d r.name (x ∷ xs) ≡ suc (room d r.name xs) = rw (lt_false x.depth d (omega arith), lt_true d x.depth l) refl in let Q : ℕ → Type 0 = λ k. IsChange d (with_row r.name (taken_of r rs)) (x ∷ xs) (with_run (x ∷ xs) k) in
          subst Q (sym k) (change_deeper d (with_row r.name (taken_of r rs)) x xs _ l (put_in xs))
      | inr t ↦ let k : room d r.name (x ∷ xs) ≡ cond (is_name_before r.name x.name) 0 (suc (room d r.name xs)) = rw (lt_false x.depth d (omega arith), lt_false d x.depth (omega arith)) refl in let Q : ℕ → Type 0 = λ k. IsChange d (with_row r.name (taken_of r rs)) (x ∷ xs) (with_run (x ∷ xs) k) in
          subst Q (sym k) (at_depth (is_name_before r.name x.name) x xs refl t (put_in xs))
    ]
  ] where
    at_depth : (b : Bool) → (x : Item) (xs : List Item) → is_name_before r.name x.name ≡ b → x.depth ≡ d → IsChange d (with_row r.name (taken_of r rs)) xs (with_run xs (room d r.name xs)) → IsChange d (with_row r.name (taken_of r rs)) (x ∷ xs) (with_run (x ∷ xs) (cond b 0 (suc (room d r.name xs))))
    at_depth true x xs e t c = first_put (x ∷ xs) (λ e h. grown_higher e x xs (omega arith)) (ap (with_row r.name (taken_of r rs)) (grown_here d x xs t) ∙ (let y : with_row r.name (taken_of r rs) (row_of x (grown (d + 1) xs) (grown d xs)) ≡ row_of r (grown (r.depth + 1) rs) (row_of x (grown (d + 1) xs) (grown d xs)) = rw e refl in y) ∙ ap (row_of r (grown (r.depth + 1) rs)) (sym (grown_here d x xs t)))
    at_depth false x xs e t c = change_beside d (with_row r.name (taken_of r rs)) x xs _ t (rw e refl) c

-- an item's file changed
pub filed : (d : ℕ) (n : List ℕ) (change : File → File) (i j : Item) (xs : List Item) → i.depth ≡ d → bytes_eq n i.name ≡ true → IsFiled change i j → IsChange d (file_at n change) (i ∷ xs) (j ∷ xs)
unfolding row_of
filed d n change i j xs h b f = record {
  rows = grown_here d j xs (f.depth ∙ h) ∙ (let x : Row j.id.0 j.name (kept_file j.file) (grown (d + 1) xs) (grown d xs) ≡ Row i.id.0 i.name (on_file change (kept_file i.file)) (grown (d + 1) xs) (grown d xs) = rw (f.id, f.name, f.file) refl in x)
      ∙ (let y : file_at n change (row_of i (grown (d + 1) xs) (grown d xs)) ≡ Row i.id.0 i.name (on_file change (kept_file i.file)) (grown (d + 1) xs) (grown d xs) = rw b refl in sym y) ∙ ap (file_at n change) (sym (grown_here d i xs h));
  others = λ e ne. elim (compared e d) [
    | inl l ↦ grown_deeper e j xs (omega (arith, f.depth)) ∙ sym (grown_deeper e i xs (omega arith))
    | inr r ↦ grown_higher e j xs (elim r [ inl l ↦ omega (arith, f.depth) | inr s ↦ absurd (ne s) ]) ∙ sym (grown_higher e i xs (elim r [ inl l ↦ omega arith | inr s ↦ absurd (ne s) ]))
  ];
}

-- a run at another depth makes the same rows
pub relabelled_rows : (d e : ℕ) (xs : List Item) → AreDeeper d xs → (j : ℕ) → 0 < j → grown (e + j) (map (relabelled d e) xs) ≡ grown (d + j) xs
unfolding row_of
relabelled_rows d e [] a j h = refl
relabelled_rows d e (x ∷ xs) a j h = elim (compared x.depth (d + j)) [
  | inl l ↦ grown_higher (e + j) (relabelled d e x) (map (relabelled d e) xs) (omega (arith, a.0)) ∙ sym (grown_higher (d + j) x xs l)
  | inr r ↦ elim r [
    | inl l ↦ grown_deeper (e + j) (relabelled d e x) (map (relabelled d e) xs) (omega (arith, a.0)) ∙ relabelled_rows d e xs a.1 j h ∙ sym (grown_deeper (d + j) x xs l)
    | inr s ↦ grown_here (e + j) (relabelled d e x) (map (relabelled d e) xs) (omega (arith, a.0)) ∙ ap (λ z. row_of x z (grown (e + j) (map (relabelled d e) xs))) (ap (λ z. grown z (map (relabelled d e) xs)) (omega arith) ∙ relabelled_rows d e xs a.1 (j + 1) (omega arith) ∙ ap (λ z. grown z xs) (omega arith))
        ∙ ap (row_of x (grown (d + j + 1) xs)) (relabelled_rows d e xs a.1 j h) ∙ sym (grown_here (d + j) x xs s)
  ]
]
