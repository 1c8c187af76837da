use Rattle.iris_version_tree.proofs.setting.+set_range.Given as goal

abbrev pub decreases-set_range : goal.decreases-set_range
decreases-set_range l = l.level
