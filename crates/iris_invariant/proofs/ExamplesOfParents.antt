-- A child that is being fetched below a resident parent, and below one that is absent.
use Rattle.std.proofs.Common.{◌≡◌, ℕ, Bool, true, false, cond, Option, Some, None, refl, sym}
use Rattle.iris_name.specs.declared.name.Name.{Name}
use Rattle.iris_name.specs.declared.name.Name.TheVariants.{Block}
use Rattle.iris_name.specs.declared.note.Expect.TheVariants.{Version}
use Rattle.iris_name.specs.Names.{same_name}
use Rattle.iris_invariant.specs.Agrees.{Cell, View}
use Rattle.iris_invariant.specs.ParentsResident.{ParentsResident, NoChildIsFetched}
use Rattle.iris_invariant.proofs.ExampleCounter.{block, counter, away, differ}
use Rattle.iris_invariant.proofs.ExamplesOfEvents.{past1, fresh, getting, fetched}

abbrev child : Name
child = Block (record { 0 = 2 }) 1

-- the block so, and its child being fetched
abbrev family : Cell → View
family c = record {
  cell = λ q. cond (same_name block q) c (cond (same_name child q) fetched away);
  asked = λ w. None;
  kept = λ w q. false;
  pinned = λ w q. false;
}

-- whatever lives leads to the child
abbrev Leads : ℕ → Name → Type 0
Leads u n = n ≡ child

below_resident : ParentsResident counter Leads past1 (family fresh)
below_resident n p o expect u f d s l = by (same_name block p) s where
  by : (b : Bool) → ◌≡◌ {A = Option ℕ} (cond b (Some 1) None) (Some u) → (cond b fresh (cond (same_name child p) fetched away)).resident ≡ true
  by true e = refl
  by false e = absurd (cc)

below_absent : ParentsResident counter Leads past1 (family away) → ⊥
below_absent h = differ (sym (h child block getting (Version 1) 1 refl refl refl refl))

-- so the block isn't let go
child_comes : NoChildIsFetched counter Leads past1 (family fresh) block → ⊥
child_comes h = h child getting (Version 1) 1 refl refl refl refl
