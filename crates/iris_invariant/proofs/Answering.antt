-- The laws of answers, from the lemmas on whole events.
use Rattle.std.proofs.Common.{ℕ, List}
use Rattle.iris_name.specs.declared.name.Name.{Name}
use Rattle.iris_history.specs.Kept.{Kept}
use Rattle.iris_history.specs.Legal.{Rules}
use Rattle.iris_invariant.specs.Answering as l
use Rattle.iris_invariant.proofs.Ends.{got_lawful}
use Rattle.iris_invariant.proofs.Readings.{stood, record_passes, right_not_other, refused_other, passed_right}
use Rattle.iris_invariant.proofs.Supply.{supply_failed, supply_bad, stored_refused, gone_refused, supply_kept}

module _ (k : Kept) (r : Rules) where
  pub failed_gets_refuse : l.FailedGetsRefuse k r
  failed_gets_refuse opened past v v1 v2 n o request expect answer s d f b = supply_failed k r (λ m bytes. ⊥) opened past v v1 v2 n o request s.out s.asked s.values expect d answer f b

  pub bad_answers_refuse : (Fits : Name → List ℕ → Type 0) → l.BadAnswersRefuse k r Fits
  bad_answers_refuse Fits sp opened past v v1 v2 n o request expect answer s d f b = supply_bad k r Fits opened past v v1 v2 n o request s.out s.asked s.values expect d answer sp f.came f.wrong b

  pub failed_puts_refuse : l.FailedPutsRefuse k r
  failed_puts_refuse opened past v v1 v2 n o request bytes s d cr b = stored_refused k r (λ m bytes. ⊥) opened past v v1 v2 n o request s.out s.asked s.values bytes d cr b

  pub failed_discards_refuse : l.FailedDiscardsRefuse k r
  failed_discards_refuse opened past v v1 v2 n o request s d cr b = gone_refused k r (λ m bytes. ⊥) opened past v v1 v2 n o request s.out s.asked s.values d cr b

  pub passing_answers_stay : (Fits : Name → List ℕ → Type 0) → l.PassingAnswersStay k r Fits
  passing_answers_stay Fits sp one opened past v v' n o expect bytes f d pass b = supply_kept k r Fits opened past v v' n o expect bytes f d sp one pass b

  pub answers_show : (Fits : Name → List ℕ → Type 0) → l.AnswersShow k r Fits
  answers_show Fits sp one opened past v n o expect answer legal h f d = let g = h.outs n o f in let s = stood k r Fits n opened past (v.cell n) o expect answer g d in record {
    u = s.0;
    stood = s.1;
    passes = record_passes k r Fits n opened past (v.cell n) o expect answer g d sp legal;
    right = right_not_other k r Fits n opened past (v.cell n) o expect answer g d legal;
    refused = λ c. refused_other k r Fits n opened past (v.cell n) o expect answer g d sp legal c.came c.wrong;
    passed = λ bytes e pass. passed_right k r Fits n opened past (v.cell n) o expect answer g d sp one (got_lawful k r n opened past (v.cell n) o g expect d answer, legal) bytes e pass;
  }
