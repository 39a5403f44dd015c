use Rattle.histories.proofs.Deciding.{one_nearest, nearest_decides, nothing_posted, by_whole_words}
use Rattle.histories.proofs.laws.nearest_decides.Goals as goal

pub returns-clause-decides : goal.returns-clause-decides
returns-clause-decides c = nearest_decides

pub returns-clause-none : goal.returns-clause-none
returns-clause-none c = nothing_posted

pub returns-clause-one : goal.returns-clause-one
returns-clause-one c = one_nearest

pub returns-clause-words : goal.returns-clause-words
returns-clause-words c = by_whole_words
