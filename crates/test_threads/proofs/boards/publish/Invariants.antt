use Rattle.test_threads.proofs.boards.publish.Given as goal

abbrev pub ghost-new : goal.ghost-new
ghost-new a = 0
