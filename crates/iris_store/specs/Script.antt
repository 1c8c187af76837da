-- Which deed of a list answers a call of a store, what it answers, and which deeds are left.
use Rattle.std.specs.Prelude.{◌≡◌, ◌⊎◌, ℕ, ◌-◌, ◌==◌, ◌&&◌, nat_le, not, Bool, true, false, List, map, filter, find, take, Option, Some, None, Result, Ok, Err, if◌then◌else◌}
use Rattle.std.specs.Option.{option_map}
use Rattle.iris_name.specs.Names.{same_name}
use Rattle.iris_name.specs.declared.name.Name.{Name}
use Rattle.iris_store.specs.Tally.{counted}
use Rattle.iris_store.specs.declared.StoreError.{StoreError}
use Rattle.iris_store.specs.declared.StoreError.TheVariants.{Failed, NoMemory}
use Rattle.iris_store.specs.declared.script.Kind.{Kind}
use Rattle.iris_store.specs.declared.script.Kind.TheVariants.{Get, Put, Discard}
use Rattle.iris_store.specs.declared.script.Act.{Act}
use Rattle.iris_store.specs.declared.script.Act.TheVariants.{Fail, Absent, Give}
use Rattle.iris_store.specs.declared.script.Deed.{Deed}

-- A store, the deeds that answer in its place, and how often they failed.
pub record Scripted (S : Type 0) : Type 0 where
  pub inner : S
  pub deeds : List Deed
  pub faults : ℕ

-- whether a deed of that call, with that act, is for a call: an answer is for gets alone
abbrev pub is_for : Kind → Act → Kind → Bool
is_for Get act Get = true
is_for Put Fail Put = true
is_for Discard Fail Discard = true
is_for call act other = false

-- whether a deed of that name, or of any, is for a name
abbrev pub is_deed_for : Option Name → Name → Bool
is_deed_for None name = true
is_deed_for (Some own) name = same_name own name

-- whether a call fits a deed
abbrev pub fits : Kind → Name → Deed → Bool
fits call name deed = is_for deed.call deed.act call && is_deed_for deed.name name

-- whether a deed is due at a call: it fits, and it is the one that the deed waits for, or the deed is for each
abbrev pub is_due : Kind → Name → Deed → Bool
is_due call name deed = fits call name deed && nat_le deed.nth 1

-- the act of the first deed that is due
abbrev pub due : Kind → Name → List Deed → Option Act
due call name deeds = option_map (λ deed. deed.act) (find (is_due call name) deeds)

-- whether a call that fits a deed is the last that the deed counts
abbrev pub is_spent : Kind → Name → Deed → Bool
is_spent call name deed = fits call name deed && (deed.nth == 1)

-- a deed after a call: it waits for one call less that fits, unless it is for each
abbrev pub waiting : Kind → Name → Deed → Deed
waiting call name deed = if fits call name deed then record deed { nth = deed.nth - 1 } else deed

-- the deeds that are left after a call, whichever of them answered
abbrev pub left_after : Kind → Name → List Deed → List Deed
left_after call name deeds = map (waiting call name) (filter (λ deed. not (is_spent call name deed)) deeds)

-- the deeds that are left after a call with that result: want of memory is no answer, and isn't counted
abbrev pub left_by : {A : Type 0} → Kind → Name → List Deed → Result A StoreError → List Deed
left_by call name deeds (Ok a) = left_after call name deeds
left_by call name deeds (Err Failed) = left_after call name deeds
left_by call name deeds (Err NoMemory) = deeds

-- what an act answers to a get
abbrev pub IsDone : Act → Result (Option (List ℕ)) StoreError → Type 0
IsDone Fail result = result ≡ Err Failed
IsDone Absent result = result ≡ Ok None
IsDone (Give bytes) result = (result ≡ Ok (Some (take 8192 bytes))) ⊎ (result ≡ Err NoMemory)

-- the count of failures after an act, if one was due
abbrev pub counted_by : Option Act → ℕ → ℕ
counted_by None faults = faults
counted_by (Some Fail) faults = counted faults
counted_by (Some Absent) faults = faults
counted_by (Some (Give bytes)) faults = faults
