use Rattle.iris_records.proofs.parts.+side_of.Given as goal

abbrev pub decreases-side_of : goal.decreases-side_of
decreases-side_of l = l.level
