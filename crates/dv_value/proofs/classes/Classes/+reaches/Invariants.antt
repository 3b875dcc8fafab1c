use Rattle.dv_value.proofs.classes.Classes.+reaches.Given as goal

abbrev pub decreases-reaches : goal.decreases-reaches
decreases-reaches l = l.steps
