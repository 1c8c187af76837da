-- The table between the two steps of a cut is sound.
use Rattle.std.proofs.Common.{◌≡◌, ℕ, ◌+◌, ◌/◌, ◌%◌, ◌≤◌, ◌<◌, length, get_or, Bool, true, false, ◌&&◌, cond, Some, refl, arith}
use Rattle.std.specs.Prelude.{not, nat_le, nat_lt}
use Rattle.std.proofs.lemmas.Bool.Decides.{nat_tests}
use Rattle.iris_plain.specs.Checks.{blocks_of}
use Rattle.iris_plain.specs.Routes.{parent, last}
use Rattle.iris_shape.specs.FoldLaws.{with_range_set}
use Rattle.iris_rows.specs.Rows.{File, zeros, file_at}
use Rattle.iris_rows.specs.Sound.{IsGood, IsCounted, FitsRecord}
use Rattle.iris_rows.proofs.CountedFiles.{counted_more}
use Rattle.iris_rows.proofs.DistinctRows.{distinct_at, distinct_file_at, good_at_path}
use Rattle.iris_rows.proofs.FilesAmongRows.{all_at, all_file_at, all_filed, all_map, good_file_at}
use Rattle.iris_rows.proofs.ResizedContent.{length-zeros, zeros_at}
use Rattle.iris_rows.proofs.RisingNames.{ordered_at, ordered_file_at}
use Rattle.iris_rows.proofs.TimesGiven.{times_at, times_file_at}
use Rattle.iris_plan_laws.specs.FileChanges.{emptied_past, BetweenIsSound}

good_between : (size : ℕ) (f : File) → IsGood (Some f) → IsGood (Some (emptied_past size f))
good_between size f g = (λ p. pages p (nat_le (blocks_of size) p), λ i h. tail i h (nat_le (blocks_of size) (i / 4096))) where
  pages : (p : ℕ) (b : Bool) → length (cond b zeros (f.block p)) ≡ 4096
  pages p true = length-zeros
  pages p false = g.0 p

  tail : (i : ℕ) → f.size ≤ i → (b : Bool) → get_or (cond b zeros (f.block (i / 4096))) (i % 4096) 0 ≡ 0
  tail i h true = zeros_at (i % 4096)
  tail i h false = g.1 i h

counted_between : (age size : ℕ) (f : File) → IsCounted age f → IsCounted (age + 1) (emptied_past size f)
unfolding with_range_set
counted_between age size f c = record {
  version = λ p. few p (not (nat_lt p (blocks_of size)) && nat_lt p (blocks_of f.size));
  counter = let h = c.counter in omega (arith, h);
  past = λ p h. gone p h (not (nat_lt p (blocks_of size)) && nat_lt p (blocks_of f.size));
  hole = λ p h. is_hole p (nat_le (blocks_of size) p) refl (nat_lt p (blocks_of size)) refl (nat_lt p (blocks_of f.size)) h;
} where
  few : (p : ℕ) (b : Bool) → cond b 0 (f.version p) ≤ f.counter
  few p true = omega arith
  few p false = c.version p

  gone : (p : ℕ) → blocks_of f.size ≤ p → (b : Bool) → cond b 0 (f.version p) ≡ 0
  gone p h true = refl
  gone p h false = c.past p h

  is_hole : (p : ℕ) (a : Bool) → nat_le (blocks_of size) p ≡ a → (l : Bool) → nat_lt p (blocks_of size) ≡ l → (m : Bool) → cond (not l && m) 0 (f.version p) ≡ 0 → cond a zeros (f.block p) ≡ zeros
  is_hole p true e l g m h = refl
  is_hole p false e true g m h = c.hole p h
  is_hole p false e false g m h = absurd (let x : p < blocks_of size = grind (arith, nat_tests) in let y : blocks_of size ≤ p = grind (arith, nat_tests) in omega (arith, x, y))

pub between_is_sound : BetweenIsSound
between_is_sound t names size s v = record {
  distinct = distinct_at (parent names) (file_at (last names) (emptied_past size)) t.visible (λ inner d. distinct_file_at (last names) (emptied_past size) inner d) s.distinct;
  good = good_at_path (parent names) (file_at (last names) (emptied_past size)) t.visible (λ inner d. good_file_at (last names) (emptied_past size) inner (good_between size) d) s.good;
  trash_good = s.trash_good;
  counted = all_filed (IsCounted t.age) (IsCounted (t.age + 1)) (counted_more t.age) (parent names) (last names) (emptied_past size) t.visible (counted_between t.age size) s.counted;
  trash_counted = all_map (IsCounted t.age) (IsCounted (t.age + 1)) t.trash (counted_more t.age) s.trash_counted;
  once = λ i. (let h = times_at i 0 (parent names) (file_at (last names) (emptied_past size)) t.visible (λ inner. (let k = times_file_at i (last names) (emptied_past size) inner in omega (arith, k))) in let k = s.once i in omega (arith, h, k));
  hand = s.hand;
  first = s.first;
  next = v.next;
  age = v.age;
  short = all_at FitsRecord (parent names) (file_at (last names) (emptied_past size)) t.visible (λ inner d. all_file_at FitsRecord (last names) (emptied_past size) inner (λ f k. k) d) s.short;
  trash_short = s.trash_short;
  ordered = ordered_at (parent names) (file_at (last names) (emptied_past size)) t.visible (λ inner d. ordered_file_at (last names) (emptied_past size) inner d) s.ordered;
  trash_ordered = s.trash_ordered;
}
