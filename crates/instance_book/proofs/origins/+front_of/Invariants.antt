use Rattle.instance_book.proofs.origins.+front_of.Given as goal

abbrev pub decreases-front_of : goal.decreases-front_of
decreases-front_of l = l.links
