use Rattle.iris_file_rules.proofs.upkeep_reaches_nothing.Goals as goal

pub returns : goal.returns
returns c = λ keys past n. (λ h. h, λ h. h)
