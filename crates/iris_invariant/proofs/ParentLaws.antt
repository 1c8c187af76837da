-- The laws of parents and of evidence, from the lemmas on each event.
use Rattle.std.proofs.Common.{◌≡◌, ℕ, true}
use Rattle.iris_name.specs.declared.name.Name.{Name}
use Rattle.iris_name.specs.declared.note.Note.{Note}
use Rattle.iris_name.specs.declared.note.Note.TheVariants.{Call, Got, Put, Dropped}
use Rattle.iris_history.specs.Kept.{Kept}
use Rattle.iris_history.specs.Legal.{is_transfer_of}
use Rattle.iris_invariant.specs.ParentLaws as l
use Rattle.iris_invariant.specs.ParentLaws.{leads}
use Rattle.iris_invariant.proofs.Evidence.{IsCallOf, got_stays, kept_evidence, call_evidence}
use Rattle.iris_invariant.proofs.ParentsResident.{ends_homes, begins_homes, evict_homes, call_homes}

pub parents_stay : (k : Kept) → l.ParentsStay k
parents_stay k = record {
  ends = λ links past past' n v v' h el same none stays. ends_homes k (leads links) past v v' h n past' el same none stays;
  begins = λ links past n o v v' h b new. begins_homes k (leads links) past v v' h n o b new;
  evicts = λ links past n v v' h b free. evict_homes k (leads links) past v v' h n b free;
  calls = λ links past x who v v' h b. call_homes k (leads links) past v v' h who x b;
}

no_call : (n : Name) (who : ℕ) (note : Note) → is_transfer_of n note ≡ true → IsCallOf who note → ⊥
no_call n who (Call w request reply) e h = absurd (cc)
no_call n who (Got w since m answer) e h = h
no_call n who (Put w since m bytes ok) e h = h
no_call n who (Dropped w since m ok) e h = h

pub evidence_stays : (k : Kept) → l.EvidenceStays k
evidence_stays k = record {
  gets = λ opened past v v' n o answer b is h. kept_evidence k opened past v v' n o answer b is h;
  calls = λ opened who request reply past v v' b h. call_evidence k opened who request reply past v v' b h;
  others = λ past x n v v' t f h who q kept. got_stays k who q past x (no_call n who x.note t) (h who q (f who q kept));
}
