-- The names of a directory among items in preorder, and a page of them.
use Rattle.std.proofs.Common.{◌≡◌, ℕ, ◌+◌, ◌<◌, List, [], ◌∷◌, ◌++◌, MatchOption, Bor, Bool, true, false, cond, Option, Some, None, refl, sym, ◌∙◌, ap, subst}
use Rattle.std.specs.Prelude.{◌||◌, is_some}
use Rattle.std.specs.Str.{bytes_eq}
use Rattle.iris_plain.specs.Checks.{is_directory_seen}
use Rattle.iris_plain.specs.Pages.{NoneLater, IsNext, IsPage}
use Rattle.iris_plain.specs.declared.files.Kind.{Kind}
use Rattle.iris_rows.specs.Changes.{seen_row, seen_file}
use Rattle.iris_plain.specs.Steps.{has_entry_named}
use Rattle.iris_rows.specs.declared.item.Item.{Item}
use Rattle.iris_rows.specs.Items.{grown, kept_file}
use Rattle.iris_rows.specs.Rows.{File, Rows, End, Taken, Here, find, resolved, followed, entered}
use Rattle.iris_rows.specs.View.{kind_below, into, bound, kind_of}
use Rattle.iris_table.specs.Stops.{is_name_of}
use Rattle.iris_rows.proofs.ViewByPath.{kind_found, look_resolved}
use Rattle.iris_rows.proofs.KindsByPath.{look_below}
use Rattle.iris_rows.proofs.GrownRows.{row_of, grown_deeper, grown_here}

-- the best of the names so far, where those of the items left make up all names of the items
pub record IsBest (d : ℕ) (after : List ℕ) (left items : List Item) (so_far : Option (Bor (List ℕ))) : Type 0 where
  pub there : List ℕ → Bool
  pub best : MatchOption so_far (NoneLater there after) (λ b. IsNext there after b.now)
  pub all : (m : List ℕ) → (there m || is_name_of (grown d left) m) ≡ is_name_of (grown d items) m

-- alike tests have alike names
pub next_alike : (x y : List ℕ → Bool) (after : List ℕ) (best : Option (Bor (List ℕ))) → ((m : List ℕ) → x m ≡ y m) → MatchOption best (NoneLater x after) (λ b. IsNext x after b.now) → MatchOption best (NoneLater y after) (λ b. IsNext y after b.now)
next_alike x y after best h = let e : x ≡ y = (λ i. λ m. h m i) in let Q : (List ℕ → Bool) → Type 0 = λ t. MatchOption best (NoneLater t after) (λ b. IsNext t after b.now) in subst Q e

none_there : (b : Bool) → b ≡ (b || false)
none_there true = refl
none_there false = refl

nowhere : (m : List ℕ) → is_name_of End m ≡ false
nowhere m = refl

-- at the beginning
pub best_none : (d : ℕ) (after : List ℕ) (items : List Item) (best : Option (Bor (List ℕ))) → best ≡ None → IsBest d after items items best
best_none d after items best e = record { there = λ m. false; best = let Q : Option (Bor (List ℕ)) → Type 0 = λ o. MatchOption o (NoneLater (λ m. false) after) (λ b. IsNext (λ m. false) after b.now) in subst Q (sym e) (λ m h k. absurd (cc)); all = λ m. refl }

-- where no rows are left
pub best_ends : (d : ℕ) (after : List ℕ) (left items : List Item) (best : Option (Bor (List ℕ))) → IsBest d after left items best → grown d left ≡ End → MatchOption best (NoneLater (is_name_of (grown d items)) after) (λ b. IsNext (is_name_of (grown d items)) after b.now)
best_ends d after left items best b e = next_alike b.there _ after best (λ m. none_there (b.there m) ∙ ap (λ r. b.there m || is_name_of r m) (sym e) ∙ b.all m) b.best

-- past a deeper item
pub best_deeper : (d : ℕ) (after : List ℕ) (i : Item) (left rest items : List Item) (best : Option (Bor (List ℕ))) → left ≡ i ∷ rest → d < i.depth → IsBest d after left items best → IsBest d after rest items best
best_deeper d after i left rest items best e h b = record { there = b.there; best = b.best; all = λ m. ap (λ r. b.there m || is_name_of r m) (sym (ap (grown d) e ∙ grown_deeper d i rest h)) ∙ b.all m }

also : (x y z : Bool) → ((x || y) || z) ≡ (x || (y || z))
also true y z = refl
also false y z = refl

name_first : (m : List ℕ) (i : Item) (inside next : Rows) → is_name_of (row_of i inside next) m ≡ (bytes_eq m i.name || is_name_of next m)
unfolding row_of
name_first m i inside next = by (bytes_eq m i.name) where
  by : (b : Bool) → is_some (cond b (Some (record { id = i.id.0; file = kept_file i.file; inside = inside })) (find m next)) ≡ (b || is_some (find m next))
  by true = refl
  by false = refl

-- past a row of the directory
pub best_here : (d : ℕ) (after : List ℕ) (i : Item) (left rest items : List Item) (best new : Option (Bor (List ℕ))) → left ≡ i ∷ rest → i.depth ≡ d
    → ((there : List ℕ → Bool) → MatchOption best (NoneLater there after) (λ b. IsNext there after b.now) → MatchOption new (NoneLater (λ m. there m || bytes_eq m i.name) after) (λ b. IsNext (λ m. there m || bytes_eq m i.name) after b.now))
    → IsBest d after left items best → IsBest d after rest items new
best_here d after i left rest items best new e h f b = record {
  there = λ m. b.there m || bytes_eq m i.name;
  best = f b.there b.best;
  all = λ m. also (b.there m) (bytes_eq m i.name) (is_name_of (grown d rest) m) ∙ ap (λ z. b.there m || z) (sym (name_first m i (grown (d + 1) rest) (grown d rest)) ∙ ap (λ r. is_name_of r m) (sym (ap (grown d) e ∙ grown_here d i rest h))) ∙ b.all m;
}

some_bound : (o : Option Taken) (f : Taken → Kind) → is_some (bound o (λ below. Some (f below))) ≡ is_some o
some_bound None f = refl
some_bound (Some below) f = refl

-- the names of a directory that is there
pub page_names : (names : List (List ℕ)) (root row : Taken) → resolved names root ≡ Here row → row.file ≡ None → (m : List ℕ) → is_name_of row.inside m ≡ has_entry_named (λ q. kind_below q root) names m
page_names names root row e d m = sym (ap is_some (look_below names (m ∷ []) root row e ∙ ap (λ f. into f (bound (find m row.inside) (λ below. kind_below [] below))) d) ∙ some_bound (find m row.inside) (λ below. kind_of below.file))

past_file : (ns : List (List ℕ)) (root : Taken) (m : List ℕ) → is_directory_seen (seen_row (resolved ns root)) ≡ false → kind_found (resolved (ns ++ m ∷ []) root) ≡ None
past_file [] root m e = by root.file e where
  by : (file : Option File) → is_directory_seen (seen_file file) ≡ false → kind_found (entered file (followed (find m root.inside) (λ below. Here below))) ≡ None
  by None e = absurd (cc)
  by (Some f) e = refl
past_file (n ∷ ns) root m e = by root.file (find n root.inside) e (λ below. past_file ns below m) where
  by : (file : Option File) (o : Option Taken) → is_directory_seen (seen_row (entered file (followed o (λ below. resolved ns below)))) ≡ false → ((below : Taken) → is_directory_seen (seen_row (resolved ns below)) ≡ false → kind_found (resolved (ns ++ m ∷ []) below) ≡ None)
      → kind_found (entered file (followed o (λ below. resolved (ns ++ m ∷ []) below))) ≡ None
  by (Some f) o e h = refl
  by None None e h = refl
  by None (Some below) e h = h below e

-- where no directory is there, no names are
pub no_names : (names : List (List ℕ)) (root : Taken) (after : List ℕ) → is_directory_seen (seen_row (resolved names root)) ≡ false → NoneLater (has_entry_named (λ q. kind_below q root) names) after
no_names names root after e m h k = absurd (let x : has_entry_named (λ q. kind_below q root) names m ≡ false = ap is_some (look_resolved (names ++ m ∷ []) root ∙ past_file names root m e) in let y = sym x ∙ h in cc)

pub page_alike : (x y : List ℕ → Bool) (room : ℕ) (after : List ℕ) (page : List (List ℕ)) → ((m : List ℕ) → x m ≡ y m) → IsPage x room after page → IsPage y room after page
page_alike x y room after page h = let e : x ≡ y = (λ i. λ m. h m i) in let Q : (List ℕ → Bool) → Type 0 = λ t. IsPage t room after page in subst Q e
