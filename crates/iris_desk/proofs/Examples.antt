-- Desks worked out by hand, which the definitions compute.
use Rattle.std.proofs.Common.{◌≡◌, ℕ, [], ◌∷◌, length, replicate, true, false, Some, None, refl, ap, arith}
use Rattle.std.proofs.lemmas.Map.Keys.{IsDistinct-head}
use Rattle.std.specs.Option.{option_map_or}
use Rattle.iris_name.specs.Names.{same_name}
use Rattle.iris_name.specs.declared.name.Name.{Name}
use Rattle.iris_name.specs.declared.name.Name.TheVariants.{Entry, Block}
use Rattle.iris_name.specs.declared.note.Expect.TheVariants.{Version}
use Rattle.iris_name.specs.declared.request.Request.TheVariants.{Sync, Root}
use Rattle.iris_desk.specs.declared.out.Doing.TheVariants.{Get, Put, Discard, Settle}
use Rattle.iris_desk.specs.declared.out.Out.{Out}
use Rattle.iris_desk.specs.declared.out.Record.TheVariants.{Node}
use Rattle.iris_desk.specs.Outs.{FitsDoing, task_of, touched_out, out_in}
use Rattle.iris_desk.specs.AtDesk.{DeskState, empty_desk, asked_desk, entered_desk, begun_desk, ended_desk, touched_desk, IsDeskSound}
use Rattle.iris_desk.specs.AtDesks.{DesksState, asked_by, keeps_for, out_for, out_of, is_doomed, ChangesDesk, AreDesksSound}

abbrev n : ℕ → Name
n k = Entry (record { 0 = k })

abbrev get : ℕ → Out
get k = record { doing = Get; name = n k; since = 3; expect = Some (Version 1); crowded = false; «record» = None; touched = false }

abbrev put : ℕ → Out
put k = record { doing = Put; name = n k; since = 4; expect = None; crowded = true; «record» = Some (Node (7 ∷ [])); touched = false }

-- ---- what is out

-- a get expects something and writes nothing, a put the other way round, and a discard neither
get_fits : FitsDoing (get 1)
get_fits = record { expects = refl; carries = refl }

put_fits : FitsDoing (put 1)
put_fits = record { expects = refl; carries = refl }

discard_fits : FitsDoing (record (put 1) { doing = Discard; «record» = None })
discard_fits = record { expects = refl; carries = refl }

get_of_anything : FitsDoing (record (get 1) { expect = None }) → ⊥
get_of_anything f = let e = f.expects in cc

put_of_nothing : FitsDoing (record (put 1) { «record» = None }) → ⊥
put_of_nothing f = let e = f.carries in cc

settling_writes : FitsDoing (record (put 1) { doing = Settle }) → ⊥
settling_writes f = let e = f.carries in cc

-- two gets of one name that began at other times are two
other_time : task_of (get 1) ≡ task_of (record (get 1) { since = 4 }) → ⊥
other_time e = let h : 3 ≡ 4 = ap (λ t. t.since) e in absurd (omega (arith, h))

-- what makes no difference to which it is
same_task : task_of (get 1) ≡ task_of (record (get 1) { touched = true; crowded = true })
same_task = refl

-- a block of the file with this number is another name
by_name : (out_in (get 1 ∷ put 2 ∷ []) (n 2) ≡ Some (put 2)) × (out_in (get 1 ∷ put 2 ∷ []) (Block (record { 0 = 1 }) 2) ≡ None)
by_name = (refl, refl)

-- ---- one desk

abbrev busy : DeskState
busy = record { request = Some Sync; out = get 1 ∷ put 2 ∷ []; kept = n 5 ∷ [] }

asked_anew : (asked_desk Root busy).request ≡ Some Root
asked_anew = refl

entered : entered_desk busy ≡ record { request = None; out = get 1 ∷ put 2 ∷ []; kept = [] }
entered = refl

begun_last : (begun_desk (get 3) busy).out ≡ get 1 ∷ put 2 ∷ get 3 ∷ []
begun_last = refl

-- the name is kept last, also where it is kept already, but then not twice; without `keep` it isn't
ended_kept : ended_desk true (n 1) busy ≡ record { request = Some Sync; out = put 2 ∷ []; kept = n 5 ∷ n 1 ∷ [] }
ended_kept = refl

ended_kept_already : (ended_desk true (n 5) busy).kept ≡ n 5 ∷ []
ended_kept_already = refl

ended_unkept : ended_desk false (n 1) busy ≡ record { request = Some Sync; out = put 2 ∷ []; kept = n 5 ∷ [] }
ended_unkept = refl

touched_one : (touched_desk (n 2) busy).out ≡ get 1 ∷ touched_out (put 2) ∷ []
touched_one = refl

touched_none : touched_desk (n 3) busy ≡ busy
touched_none = refl

out_twice : IsDeskSound (record { request = None; out = get 1 ∷ put 1 ∷ []; kept = [] }) → ⊥
out_twice s = let e = (IsDistinct-head same_name (n 1) (n 1 ∷ []) s.once).0 in cc

kept_twice : IsDeskSound (record { request = None; out = []; kept = n 1 ∷ n 1 ∷ [] }) → ⊥
kept_twice s = let e = (IsDistinct-head same_name (n 1) (n 1 ∷ []) s.kept).0 in cc

-- ---- all desks

abbrev desks : DesksState
desks = record { desks = empty_desk ∷ busy ∷ record { request = None; out = get 3 ∷ []; kept = n 1 ∷ [] } ∷ []; doomed = n 9 ∷ []; room = 0 }

-- with the number of the desk, which is no part of the name
out_there : (out_of desks (n 2) ≡ Some (1, put 2)) × (out_of desks (n 3) ≡ Some (2, get 3)) × (out_of desks (n 5) ≡ None)
out_there = (refl, refl, refl)

at_own_desk : (out_for desks 1 (n 2) ≡ Some (put 2)) × (out_for desks 2 (n 2) ≡ None) × (out_for desks 3 (n 2) ≡ None)
at_own_desk = (refl, refl, refl)

kept_there : (keeps_for desks 1 (n 5) ≡ true) × (keeps_for desks 2 (n 5) ≡ false) × (keeps_for desks 3 (n 5) ≡ false)
kept_there = (refl, refl, refl)

asked_there : (asked_by desks 1 ≡ Some Sync) × (asked_by desks 2 ≡ None) × (asked_by desks 3 ≡ None)
asked_there = (refl, refl, refl)

doomed_there : (is_doomed desks (n 9) ≡ true) × (is_doomed desks (n 1) ≡ false)
doomed_there = (refl, refl)

-- a name that is out at two desks
out_at_two : AreDesksSound (record { desks = busy ∷ busy ∷ replicate 15 empty_desk; doomed = []; room = 0 }) → ⊥
out_at_two s = let h : 0 ≡ 1 = s.apart (n 1) 0 1 (get 1) (get 1) refl refl in absurd (omega (arith, h))

-- a caller without a desk
too_few : AreDesksSound (record { desks = replicate 16 empty_desk; doomed = []; room = 0 }) → ⊥
too_few s = let h : 16 ≡ 17 = s.seats in absurd (omega (arith, h))

doomed_twice : AreDesksSound (record { desks = replicate 17 empty_desk; doomed = n 9 ∷ n 9 ∷ []; room = 0 }) → ⊥
doomed_twice s = let e = (IsDistinct-head same_name (n 9) (n 9 ∷ []) s.once).0 in cc

-- another desk changes as well
another_changes : ChangesDesk desks (record desks { desks = empty_desk ∷ begun_desk (get 4) busy ∷ [] }) 0 (λ d. d) → ⊥
another_changes c = let h : 3 ≡ 2 = ap (λ z. option_map_or (λ d. length d.out) z 0) (c 1) in absurd (omega (arith, h))
