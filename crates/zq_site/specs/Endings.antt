-- How a site ends that is waited for.

use Rattle.std.specs.Prelude.{Err, Result}
use Rattle.zq_serve.specs.declared.fault.ServeFault.{ServeFault}
use Rattle.zq_serve.specs.declared.fault.ServeFault.TheVariants as fault
use Rattle.zq_site.specs.declared.ending.Stage.{Stage}
use Rattle.zq_site.specs.declared.ending.Stage.TheVariants.{Ended, Fenced, Serving}

-- after it was found that another run used the site's number
abbrev pub fenced : Stage → Stage
fenced Serving = Fenced
fenced Fenced = Fenced
fenced (Ended ended) = Ended ended

-- how a site ends that is not waited for any longer
abbrev pub end_of : Stage → Result (Unit {0}) ServeFault
end_of Serving = Err fault.Fenced
end_of Fenced = Err fault.Fenced
end_of (Ended ended) = ended
