use Rattle.zq_model.proofs.JoinKeeps.{join_both, join_first, join_second, join_sound, join_stands, join_vector_at}
use Rattle.zq_model.proofs.SoundImages.{image_sound}
use Rattle.zq_model.proofs.joins.joining.Goals as goal

pub returns-clause-stands : goal.returns-clause-stands
returns-clause-stands c = join_stands

pub returns-clause-both : goal.returns-clause-both
returns-clause-both c a b k m s x y z p q = join_both a b k m s x y z

pub returns-clause-first : goal.returns-clause-first
returns-clause-first c = join_first

pub returns-clause-second : goal.returns-clause-second
returns-clause-second c = join_second

pub returns-clause-vector : goal.returns-clause-vector
returns-clause-vector c = join_vector_at

pub returns-clause-sound : goal.returns-clause-sound
returns-clause-sound c = join_sound

pub returns-clause-images : goal.returns-clause-images
returns-clause-images c = image_sound
