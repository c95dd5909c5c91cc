use Rattle.std.proofs.Common.{ap, map, ◌++◌, ◌∙◌}
use Rattle.zq_serve.proofs.ThreadLists.{manned_served, one_more_acceptor, spare_served}
use Rattle.zq_serve.proofs.threads.SiteThreads.add.Goals as goal
use Rattle.zq_serve.specs.SiteThreads.{link_to, links_of, served, served_by}
use Rattle.zq_session.specs.LentSites.{sites_of}

pub returns-clause-threads : goal.returns-clause-threads
returns-clause-threads c =
    let site = c.args.site.now in
    let manned = c.requires.site in
    let had = c.args.self.now in record {
      workers_are = c.in_ok-add_workers.ensures
          ∙ ap (λ p. served_by had.clients.workers.items ++ map served (sites_of p)) c.deref_mut.ensures.value
          ∙ ap (λ s. served_by had.clients.workers.items ++ s) (manned_served _ site manned);
      acceptors_are = one_more_acceptor _ _ _ c.in_ok-push.ensures.items;
      linkers_are = c.in_ok-add_linker.ensures ∙ ap (λ s. links_of had.linkers.items ++ link_to s c.args.link.now.others.items) (spare_served site.site.now site.spare manned.spare_is);
    }
