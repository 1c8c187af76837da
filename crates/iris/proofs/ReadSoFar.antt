-- Lines of a script that were read, and the rest of the script.
use Rattle.std.proofs.Common.{◌≡◌, ℕ, ◌+◌, ◌<◌, ◌≤◌, suc, List, [], ◌∷◌, ◌++◌, length, map, refl, sym, ap, ◌∙◌, subst, arith, append_assoc}
use Rattle.std.specs.List.{All}
use Rattle.std.proofs.lemmas.List.{append-nil, length-map, length-append}
use Rattle.std.proofs.lemmas.List.Elements.{All-nil, All-cons, All-append}
use Rattle.iris_name.specs.declared.request.Request.{Request}
use Rattle.iris_script.specs.Cuts.{lines_of}
use Rattle.iris.specs.Lines.{AllSpell, IsFirstBad, IsInRange, SpellsLine, SpellsNone, request_of}
use Rattle.iris.specs.declared.line.Line.{Line}

-- the lines before the rest were read as these
pub record IsSoFar (script rest : List ℕ) (lines : List Line) : Type 0 where
  pub before : List (List ℕ)
  pub whole : lines_of script ≡ before ++ lines_of rest
  pub spelled : AllSpell before (map request_of lines)
  pub range : All IsInRange lines
  pub count : length lines + length rest ≤ length script

-- nothing is read yet
pub so_far_none : (script : List ℕ) → IsSoFar script script []
so_far_none script = record { before = []; whole = refl; spelled = tt; range = All-nil IsInRange; count = omega arith }

-- one line more spells one request more
AllSpell-push : (lines : List (List ℕ)) (requests : List Request) (line : List ℕ) (request : Request) → AllSpell lines requests
    → SpellsLine line request → AllSpell (lines ++ line ∷ []) (requests ++ request ∷ [])
AllSpell-push [] [] line request all one = (one, tt)
AllSpell-push [] (r ∷ requests) line request all one = absurd all
AllSpell-push (l ∷ lines) [] line request all one = absurd all
AllSpell-push (l ∷ lines) (r ∷ requests) line request all one = (all.0, AllSpell-push lines requests line request all.1 one)

-- as many lines as requests
AllSpell-length : (lines : List (List ℕ)) (requests : List Request) → AllSpell lines requests → length lines ≡ length requests
AllSpell-length [] [] all = refl
AllSpell-length [] (r ∷ requests) all = absurd all
AllSpell-length (l ∷ lines) [] all = absurd all
AllSpell-length (l ∷ lines) (r ∷ requests) all = ap suc (AllSpell-length lines requests all.1)

map-push : (lines : List Line) (line : Line) → map request_of (lines ++ line ∷ []) ≡ map request_of lines ++ request_of line ∷ []
map-push [] line = refl
map-push (l ∷ lines) line = ap (λ v. request_of l ∷ v) (map-push lines line)

-- one line is read
pub so_far_more : (script rest line next : List ℕ) (lines : List Line) (found : Line) → IsSoFar script rest lines
    → lines_of rest ≡ line ∷ lines_of next → length next < length rest → SpellsLine line (request_of found) → IsInRange found
    → IsSoFar script next (lines ++ found ∷ [])
so_far_more script rest line next lines found h first shorter one fits =
    let P : List Request → Type 0 = λ v. AllSpell (h.before ++ line ∷ []) v in
    let longer = length-append lines (found ∷ []) in
    record {
      before = h.before ++ line ∷ [];
      whole = h.whole ∙ ap (λ v. h.before ++ v) first ∙ sym (append_assoc h.before (line ∷ []) (lines_of next));
      spelled = subst P (sym (map-push lines found)) (AllSpell-push h.before (map request_of lines) line (request_of found) h.spelled one);
      range = All-append IsInRange lines (found ∷ []) h.range (All-cons IsInRange found [] fits (All-nil IsInRange));
      count = let c = h.count in omega (arith, longer, c);
    }

-- the first line of the rest is bad
pub so_far_bad : (script rest line next : List ℕ) (lines : List Line) (n : ℕ) → IsSoFar script rest lines
    → lines_of rest ≡ line ∷ lines_of next → SpellsNone line → n ≡ length lines + 1 → IsFirstBad (lines_of script) n
so_far_bad script rest line next lines n h first none place =
    let same = AllSpell-length h.before (map request_of lines) h.spelled in
    let mapped = length-map lines request_of in
    record {
      before = h.before;
      line = line;
      after = lines_of next;
      requests = map request_of lines;
      whole = h.whole ∙ ap (λ v. h.before ++ v) first;
      place = omega (arith, place, same, mapped);
      spelled = h.spelled;
      none = none;
    }

-- all is read
pub so_far_all : (script rest : List ℕ) (lines : List Line) → IsSoFar script rest lines → length rest ≡ 0
    → AllSpell (lines_of script) (map request_of lines)
so_far_all script [] lines h empty =
    let P : List (List ℕ) → Type 0 = λ v. AllSpell v (map request_of lines) in
    subst P (sym (h.whole ∙ append-nil h.before)) h.spelled
so_far_all script (b ∷ rest) lines h empty = absurd (omega arith)
