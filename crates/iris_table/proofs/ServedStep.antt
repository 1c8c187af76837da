-- The reply and the next table, by the checks of a path's names.
use Rattle.std.proofs.Common.{◌≡◌, ◌≢◌, ℕ, ◌+◌, ◌<◌, ◌≤◌, ◌^◌, List, [], ◌∷◌, length, Bool, true, false, cond, Option, Some, None, refl, sym, ◌∙◌, ap, subst, arith}
use Rattle.std.specs.Prelude.{not, ◌==◌, nat_lt}
use Rattle.std.proofs.lemmas.Bool.Decides.{nat_tests}
use Rattle.iris_name.specs.declared.request.PlainError.{PlainError}
use Rattle.iris_name.specs.declared.request.Request.{Request}
use Rattle.iris_name.specs.declared.request.Reply.{Reply}
use Rattle.iris_plain.specs.Checks.{is_directory_seen, new_name}
use Rattle.iris_plain.specs.declared.checks.Seen.{Seen}
use Rattle.iris_plain.specs.Steps.{Judged, Accepted, PlainReplies, bytes_of}
use Rattle.iris_rows.specs.Rows.{File, End, Row, Table, Found, Here, Missing, Through, met, root_row}
use Rattle.iris_rows.specs.Changes.{stepped}
use Rattle.iris_rows.specs.View.{kind_below, content, kind_of, view}
use Rattle.iris_rows.specs.Sound.{AreGood, IsSound, IsCounted, OnFile}
use Rattle.iris_rows.specs.declared.item.Item.{Item}
use Rattle.iris_rows.specs.Items.{grown, kept_file, IsForest}
use Rattle.iris_table.specs.Stops.{file_met, met_in}
use Rattle.iris_table.specs.Served.{State, table_in, AreForests, IsServedWhole}
use Rattle.iris_table.specs.Replies.{Told, is_left}
use Rattle.iris_rows.proofs.ViewByPath.{look_resolved, kind_found}
use Rattle.iris_rows.proofs.ViewOfStep.{places, verdict_same}
use Rattle.iris_rows.proofs.FilesAmongRows.{all_here}
use Rattle.iris_rows.proofs.SoundStep.{sound_kept}
use Rattle.iris_name.specs.declared.want.NoMemory.{NoMemory}
use Rattle.std.specs.Prelude.{Result, Ok, Err, OnOk, OnErr}
use Rattle.iris_plain.proofs.StepLaws.{Path}

-- a new name stands in a directory
pub new_dir : (top full : Bool) (s m : Seen) → new_name top s m full ≡ None → is_directory_seen s ≡ true
new_dir top full s m e = ap is_directory_seen (places s m top full e).1

-- the file that is met is counted
pub counted_met : (t : Table) (names : Path) (file : File) → IsSound t → file_met (met t names) ≡ Some file → IsCounted t.age file
counted_met t names file s e = by (met t names) refl e where
  by : (found : Found) → met t names ≡ found → file_met found ≡ Some file → IsCounted t.age file
  by (Here row) m e = subst (OnFile (IsCounted t.age)) e (all_here (IsCounted t.age) names (root_row t) row m tt s.counted).0
  by Missing m e = absurd (cc)
  by Through m e = absurd (cc)

pub counter_met : (t : Table) (names : Path) → IsSound t → (file : File) → file_met (met t names) ≡ Some file → file.counter < 2 ^ 63
counter_met t names s file e = let a = (counted_met t names file s e).counter in let b = s.age in omega (arith, a, b)

-- the bytes of the file that is met
pub bytes_met : (t : Table) (names : Path) (file : File) → file_met (met t names) ≡ Some file → bytes_of (kind_below names (root_row t)) ≡ content file
bytes_met t names file e = ap bytes_of (look_resolved names (root_row t)) ∙ by (met t names) e where
  some : (f : Option File) → f ≡ Some file → bytes_of (Some (kind_of f)) ≡ content file
  some None e = absurd (cc)
  some (Some f) e = let k : f ≡ file = cc in ap content k

  by : (found : Found) → file_met found ≡ Some file → bytes_of (kind_found found) ≡ content file
  by (Here row) e = some row.file e
  by Missing e = absurd (cc)
  by Through e = absurd (cc)

pub no_bytes_met : (t : Table) (names : Path) → file_met (met t names) ≡ None → bytes_of (kind_below names (root_row t)) ≡ []
no_bytes_met t names e = ap bytes_of (look_resolved names (root_row t)) ∙ by (met t names) e where
  some : (f : Option File) → f ≡ None → bytes_of (Some (kind_of f)) ≡ []
  some None e = refl
  some (Some f) e = absurd (cc)

  by : (found : Found) → file_met found ≡ None → bytes_of (kind_found found) ≡ []
  by (Here row) e = some row.file e
  by Missing e = refl
  by Through e = refl

-- some row is there where the list isn't empty
pub left_is : (items : List Item) (n : ℕ) → n ≡ length items → IsForest items → not (n == 0) ≡ is_left (grown 0 items)
left_is [] n e f = ap (λ m. not (m == 0)) e
left_is (item ∷ items) n e f = let z : (n == 0) ≡ false = (let k : n ≢ 0 = omega (arith, e) in grind (arith, nat_tests)) in let d : item.depth ≤ 0 = f.0 in
    let a : nat_lt item.depth 0 ≡ false = grind (arith, nat_tests) in let b : nat_lt 0 item.depth ≡ false = grind (arith, nat_tests) in
    ap not z ∙ sym (ap (λ x. is_left (cond x End (cond (nat_lt 0 item.depth) (grown 0 items) (Row item.id.0 item.name (kept_file item.file) (grown (0 + 1) items) (grown 0 items))))) a
    ∙ ap (λ x. is_left (cond x (grown 0 items) (Row item.id.0 item.name (kept_file item.file) (grown (0 + 1) items) (grown 0 items)))) b)

-- the counter of the file that is met, by the list and the names that the code has
pub counter_in : (s : State) (items : List Item) (names : Path) → IsSound (table_in s) → items ≡ s.visible → (file : File) → file_met (met_in items names) ≡ Some file → file.counter < 2 ^ 63
counter_in s items names h e file m = counter_met (table_in s) names h file (sym (ap (λ (l : List Item). file_met (met_in l names)) e) ∙ m)

pub told_plain : (t : Table) (request : Request) (reply : Reply) → AreGood t.visible → Told t request reply → PlainReplies (view t) request reply
told_plain t request reply g h = let P : Option PlainError → Type 0 = λ v. Judged v (Accepted (view t).files request reply) reply in subst P (verdict_same t request g) h

-- what a request leaves is whole
pub whole_after : (r : Result Reply NoMemory) (old new : State) (request : Request) → IsServedWhole old → OnOk r (table_in new ≡ stepped (table_in old) request) → OnErr r (new ≡ old) → AreForests new → IsServedWhole new
whole_after (Ok x) old new request w e f a = record { forests = a; sound = subst IsSound (sym e) (sound_kept (table_in old) request w.sound) }
whole_after (Err x) old new request w e f a = subst IsServedWhole (sym f) w
