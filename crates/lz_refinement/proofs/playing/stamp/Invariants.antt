use Rattle.lz_refinement.proofs.playing.stamp.Given as goal

abbrev pub ghost-new : goal.ghost-new
ghost-new g a = g.moment
