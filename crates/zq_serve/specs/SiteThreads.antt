-- What works for sites.

use Rattle.std.specs.Prelude.{List, None, Option, Some, [], length, map, replicate, suc, zero, ℕ, ◌++◌, ◌∷◌, ◌≡◌}
use Rattle.zq_dots.specs.declared.rule.Rule.{Rule}
use Rattle.zq_peers.specs.Sites.{others_below}
use Rattle.zq_peers.specs.declared.attending.Link.{Link}
use Rattle.zq_serve.specs.declared.client_acceptor.ClientAcceptor.{ClientAcceptor}
use Rattle.zq_serve.specs.declared.linker.Linker.{Linker}
use Rattle.zq_serve.specs.declared.threads.SiteThreads.{SiteThreads}
use Rattle.zq_serve.specs.declared.worker.Worker.{Worker}
use Rattle.zq_session.specs.declared.lent_site.LentSite.{LentSite}
use Rattle.zq_session.specs.declared.site_pass.SitePass.{SitePass}
use Rattle.zq_settings.specs.declared.values.Settings.{Settings}
use Rattle.zq_spread.specs.Calls.{heaps_of}
use Rattle.zq_spread.specs.declared.site.Site.{Site}

-- a site that is served: its number, its number of heaps and its rule
pub record ServedSite : Type 0 where
  pub number : ℕ
  pub heaps : ℕ
  pub rule : Rule

abbrev pub served : Site → ServedSite
served site = record { number = site.number; heaps = heaps_of site; rule = site.rule }

abbrev pub served_lent : LentSite → ServedSite
served_lent lent = served lent.site.now

-- the site of a pass, where it is there
abbrev pub served_at : Option SitePass → Option ServedSite
served_at (Some own) = Some (served own.site.now)
served_at None = None

abbrev pub number_at : Option SitePass → Option ℕ
number_at (Some own) = Some own.site.now.number
number_at None = None

-- the sites of whose passes workers make use, one after the other
abbrev pub served_by : List Worker → List ServedSite
served_by workers = map (λ (w : Worker). served w.own.now.site.now) workers

-- the sites of which connections are accepted
abbrev pub accepted_for : List ClientAcceptor → List ServedSite
accepted_for acceptors = map (λ (h : ClientAcceptor). served h.site.now) acceptors

-- the sites that linkers link, each with the others
abbrev pub links_of : List Linker → List (Option ServedSite × List ℕ)
links_of linkers = map (λ (l : Linker). (served_at l.spare.now, l.link.now.others.items)) linkers

-- a site is linked where there are others beside it
abbrev pub link_to : Option ServedSite → List ℕ → List (Option ServedSite × List ℕ)
link_to served_site [] = []
link_to served_site (other ∷ others) = (served_site, other ∷ others) ∷ []

-- So many workers of a site were appended, an acceptor, and a linker where it has others beside it.
pub record HasThreads (served_site : ServedSite) (workers : ℕ) (others : List ℕ)
    (old new : SiteThreads) : Type 0
  where
    pub workers_are : served_by new.clients.workers.items ≡ served_by old.clients.workers.items
        ++ replicate workers served_site
    pub acceptors_are : accepted_for new.clients.acceptors.items ≡ accepted_for old.clients.acceptors.items
        ++ served_site ∷ []
    pub linkers_are : links_of new.linkers.items ≡ links_of old.linkers.items
        ++ link_to (Some served_site) others

-- the site at a place among the ports
abbrev pub site_at : Settings → ℕ → ServedSite
site_at settings place = record { number = place; heaps = settings.heaps; rule = settings.rule }

-- the sites before a place
abbrev pub sites_before : Settings → ℕ → List ServedSite
sites_before settings zero = []
sites_before settings (suc place) = sites_before settings place ++ site_at settings place ∷ []

-- for each of the sites so many workers
abbrev pub workers_for : ℕ → List ServedSite → List ServedSite
workers_for count [] = []
workers_for count (served_site ∷ sites) = replicate count served_site ++ workers_for count sites

-- for each of the sites the others of so many
abbrev pub all_others : ℕ → List ServedSite → List (List ℕ)
all_others count sites = map (λ (s : ServedSite). others_below s.number count) sites

-- the others of each end of the links
abbrev pub others_at : List Link → List (List ℕ)
others_at links = map (λ (l : Link). l.others.items) links

-- each end leads to all other sites
abbrev pub AreLinksOf : List LentSite → List Link → Type 0
AreLinksOf sites links = others_at links ≡ all_others (length sites) (map served_lent sites)

-- for each of the sites a link to the others of so many, where there are some
abbrev pub links_for : ℕ → List ServedSite → List (Option ServedSite × List ℕ)
links_for count [] = []
links_for count (served_site ∷ sites) =
    link_to (Some served_site) (others_below served_site.number count) ++ links_for count sites

-- Each site has so many workers, an acceptor, and a linker to all others where there are some.
pub record HaveThreads (settings : Settings) (threads : SiteThreads) : Type 0 where
  pub workers_are : served_by threads.clients.workers.items
      ≡ workers_for settings.workers (sites_before settings (length settings.ports))
  pub acceptors_are : accepted_for threads.clients.acceptors.items
      ≡ sites_before settings (length settings.ports)
  pub linkers_are : links_of threads.linkers.items
      ≡ links_for (length settings.ports) (sites_before settings (length settings.ports))
