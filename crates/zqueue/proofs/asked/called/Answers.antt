use Rattle.std.proofs.Common.{map, string_bytes}
use Rattle.zqueue.proofs.Asking.{log_asked, other_asked}
use Rattle.zqueue.proofs.asked.called.Goals as goal

pub returns-in-inspect : goal.returns-in-inspect
returns-in-inspect c =
    log_asked c.inspected.result c.args.name.now (map string_bytes c.args.rest.now)
    c.in-inspect.is c.inspected.ensures

pub returns-in_default : goal.returns-in_default
returns-in_default c =
    other_asked c.named.result c.args.name.now (map string_bytes c.args.rest.now)
    c.in_default.not-inspect c.named.ensures
