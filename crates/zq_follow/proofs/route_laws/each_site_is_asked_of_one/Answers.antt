use Rattle.zq_follow.proofs.Asked.{far_is_beyond_all, nearest_is_asked, none_is_asked_in_vain, none_is_forgotten, one_is_asked}
use Rattle.zq_follow.proofs.route_laws.each_site_is_asked_of_one.Goals as goal

pub returns-clause-one : goal.returns-clause-one
returns-clause-one c = one_is_asked

pub returns-clause-nearest : goal.returns-clause-nearest
returns-clause-nearest c = nearest_is_asked

pub returns-clause-remote : goal.returns-clause-remote
returns-clause-remote c = none_is_asked_in_vain

pub returns-clause-far : goal.returns-clause-far
returns-clause-far c = far_is_beyond_all

pub returns-clause-all : goal.returns-clause-all
returns-clause-all c = none_is_forgotten
