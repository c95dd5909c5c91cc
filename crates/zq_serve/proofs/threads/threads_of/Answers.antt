use Rattle.std.proofs.Common.{length, map, subst, sym, ◌∷◌, ◌≡◌}
use Rattle.zq_serve.proofs.ThreadLists.{AreComingFor, none_yet, one_more_site}
use Rattle.zq_serve.proofs.threads.threads_of.Goals as goal
use Rattle.zq_serve.specs.SiteThreads.{served_lent}

pub loop-site-init : goal.loop-site-init
loop-site-init c =
    let settings = c.args.settings.now in
    let count = length settings.ports in
    let threads = c.new-threads.result in
    let ports = c.iter_mut-ports.result.s.now in
    let links = c.iter-links.result.rest.now in
    let sites_is : c.into_iter-site-iterator.result.s.now ≡ c.args.sites.now = cc (c.into_iter-site-iterator.ensures.into_iter_gives, c.iter_mut-rest.ensures.rest) in
    let first = none_yet settings threads c.args.sites.now c.args.ports.now c.args.links.now c.requires.sites c.requires.number c.requires.ports c.requires.links c.new-threads.ensures.workers c.new-threads.ensures.acceptors c.new-threads.ensures.linkers in
    subst (λ s. AreComingFor settings.workers count (map served_lent s) threads s ports links) (sym sites_is)
    (subst (λ p. AreComingFor settings.workers count (map served_lent c.args.sites.now) threads c.args.sites.now p links) (sym c.iter_mut-ports.ensures.rest)
    (subst (λ l. AreComingFor settings.workers count (map served_lent c.args.sites.now) threads c.args.sites.now c.args.ports.now l) (sym c.iter-links.ensures.rest) first))

pub loop-site-preserved : goal.loop-site-preserved
loop-site-preserved c =
    let settings = c.args.settings.now in
    let workers = settings.workers in
    let count = length settings.ports in
    let all = map served_lent c.into_iter-site-iterator.result.s.now in
    let threads = c.loop-site.threads in
    let sites = c.next.new.self.s.now in
    let ports = c.next-in-loop-site.new.self.s.now in
    let links = c.next-in-loop-site-2.new.self.rest.now in
    let sites_step : c.loop-site.site-iterator.s.now ≡ c.in-Some.site.now ∷ sites = c.in-Some.ensures.steps in
    let ports_step : c.loop-site.ports.s.now ≡ c.in-Some-next.opened.now ∷ ports = c.in-Some-next.ensures.steps in
    let links_step : c.loop-site.links.rest.now ≡ c.in-Some-next-2.link.now ∷ links = c.in-Some-next-2.ensures.steps in
    let before = subst (λ l. AreComingFor workers count all threads (c.in-Some.site.now ∷ sites) (c.in-Some-next.opened.now ∷ ports) l) links_step
    (subst (λ p. AreComingFor workers count all threads (c.in-Some.site.now ∷ sites) p c.loop-site.links.rest.now) ports_step
    (subst (λ s. AreComingFor workers count all threads s c.loop-site.ports.s.now c.loop-site.links.rest.now) sites_step c.loop-site.invariant)) in
    one_more_site workers count all threads c.add.new.self c.in-Some.site.now sites c.in-Some-next.opened.now ports c.in-Some-next-2.link.now links c.in_ok-add.ensures.threads before
