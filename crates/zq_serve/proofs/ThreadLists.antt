-- Threads that are appended one after the other.
use Rattle.std.proofs.Common.{All, ap, append_assoc, arith, refl, ◌∙◌}
use Rattle.std.proofs.lemmas.List.{length-append, length-map, map-append}
use Rattle.std.proofs.lemmas.List.Elements.{All-cons, All-head, All-nil, All-tail}
use Rattle.std.specs.List.{AllZip}
use Rattle.std.specs.Prelude.{List, None, Option, Some, [], length, map, replicate, suc, zero, ℕ, ◌++◌, ◌∷◌, ◌≡◌}
use Rattle.zq_peers.specs.Sites.{others_below}
use Rattle.zq_peers.specs.declared.attending.Link.{Link}
use Rattle.zq_serve.specs.Plans.{ArePlanned, ArePlansOf, IsManned, planned}
use Rattle.zq_serve.specs.Ports.{IsOpen}
use Rattle.zq_serve.specs.SiteThreads.{AreLinksOf, HasThreads, ServedSite, accepted_for, all_others, link_to, links_for, links_of, others_at, served, served_at, served_by, served_lent, site_at, sites_before, workers_for}
use Rattle.zq_serve.specs.declared.client_acceptor.ClientAcceptor.{ClientAcceptor}
use Rattle.zq_serve.specs.declared.ports.OpenPort.{OpenPort}
use Rattle.zq_serve.specs.declared.threads.SiteThreads.{SiteThreads}
use Rattle.zq_serve.specs.declared.worker.Worker.{Worker}
use Rattle.zq_session.specs.LentSites.{IsLentBy, IsSpareOf, sites_of}
use Rattle.zq_session.specs.declared.lent_site.LentSite.{LentSite}
use Rattle.zq_session.specs.declared.site_pass.SitePass.{SitePass}
use Rattle.zq_session.specs.declared.site_plan.SitePlan.{SitePlan}
use Rattle.zq_settings.specs.declared.values.Settings.{Settings}
use Rattle.zq_spread.specs.declared.site.Site.{Site}

-- workers are there, and for each of these passes one is still to come
abbrev pub AreComing : List Worker → List SitePass → List Worker → List SitePass → Type 0
AreComing old all new rest = served_by new ++ map served (sites_of rest) ≡ served_by old ++ map served (sites_of all)

-- one more of them is there, and one fewer to come
pub one_more : (old had new : List Worker) (all : List SitePass) (first : SitePass) (rest : List SitePass) (worker : Worker) → worker.own.now ≡ first → new ≡ had ++ worker ∷ [] → AreComing old all had (first ∷ rest) → AreComing old all new rest
one_more old had new all first rest worker is pushed before =
    let of_first = served first.site.now in
    let grown : served_by new ≡ served_by had ++ of_first ∷ [] = ap served_by pushed ∙ map-append (λ (w : Worker). served w.own.now.site.now) had (worker ∷ []) ∙ ap (λ (s : SitePass). served_by had ++ served s.site.now ∷ []) is in
    ap (λ sites. sites ++ map served (sites_of rest)) grown ∙ append_assoc (served_by had) (of_first ∷ []) (map served (sites_of rest)) ∙ before

served_many : (n : ℕ) (site : Site) → map served (replicate n site) ≡ replicate n (served site)
served_many zero site = refl
served_many (suc n) site = ap (λ sites. served site ∷ sites) (served_many n site)

-- a site that has so many passes is served by so many workers
pub manned_served : (workers : ℕ) (site : LentSite) → IsManned workers site → map served (sites_of site.passes.items) ≡ replicate workers (served_lent site)
manned_served workers site manned = ap (map served) manned.passes_are ∙ served_many workers site.site.now

-- the spare pass is the site's
pub spare_served : (site : Site) (spare : Option SitePass) → IsSpareOf site spare → served_at spare ≡ Some (served site)
spare_served site (Some own) is = ap (λ s. Some (served s)) is
spare_served site None is = absurd is

-- one more site has what accepts
pub one_more_acceptor : (old new : List ClientAcceptor) (one : ClientAcceptor) → new ≡ old ++ one ∷ [] → accepted_for new ≡ accepted_for old ++ served one.site.now ∷ []
one_more_acceptor old new one pushed = ap accepted_for pushed ∙ map-append (λ (a : ClientAcceptor). served a.site.now) old (one ∷ [])

-- what lies in a list of appended lists is moved across the seam
pub seam : {X : Type 0} (new old one rest all : List X) → new ≡ old ++ one → old ++ (one ++ rest) ≡ all → new ++ rest ≡ all
seam new old one rest all grown is = ap (λ l. l ++ rest) grown ∙ append_assoc old one rest ∙ is

-- sites that are lent by the plans of settings are those of the settings
lent_sites : (plans : List SitePlan) (sites : List LentSite) → AllZip IsLentBy plans sites → map served_lent sites ≡ map planned plans
lent_sites [] [] all = refl
lent_sites [] (site ∷ sites) all = absurd all
lent_sites (plan ∷ plans) [] all = absurd all
lent_sites (plan ∷ plans) (site ∷ sites) all =
    let is = all.0 in
    let one : served_lent site ≡ planned plan = cc (is.number_is, is.heaps_are, is.rule_is) in
    cc (one, lent_sites plans sites all.1)

manned_sites : (workers : ℕ) (plans : List SitePlan) (sites : List LentSite) → AllZip IsLentBy plans sites → All (λ (plan : SitePlan). plan.servers ≡ workers) plans → All (IsManned workers) sites
manned_sites workers [] [] all count = All-nil (IsManned workers)
manned_sites workers [] (site ∷ sites) all count = absurd all
manned_sites workers (plan ∷ plans) [] all count = absurd all
manned_sites workers (plan ∷ plans) (site ∷ sites) all count =
    let is = all.0 in
    let servers = All-head (λ (plan : SitePlan). plan.servers ≡ workers) plan plans count in
    All-cons (IsManned workers) site sites (record { passes_are = is.passes_are ∙ ap (λ n. replicate n site.site.now) servers; spare_is = is.spare_is })
    (manned_sites workers plans sites all.1 (All-tail (λ (plan : SitePlan). plan.servers ≡ workers) plan plans count))

pub planned_sites : (settings : Settings) (plans : List SitePlan) (sites : List LentSite) → ArePlansOf settings plans → AllZip IsLentBy plans sites → ArePlanned settings sites
planned_sites settings plans sites are lent = record {
  sites_are = lent_sites plans sites lent ∙ are.sites_are;
  each = manned_sites settings.workers plans sites lent are.servers_are;
}

-- some sites have what works for them, and these are still to have it, each at its port and with its link
pub record AreComingFor (workers count : ℕ) (all : List ServedSite) (threads : SiteThreads)
    (sites : List LentSite) (ports : List OpenPort) (links : List Link) : Type 0
  where
    pub manned : All (IsManned workers) sites
    pub number_is : length ports ≡ length sites
    pub ports_are : All (IsOpen workers) ports
    pub links_are : others_at links ≡ all_others count (map served_lent sites)
    pub workers_are : served_by threads.clients.workers.items ++ workers_for workers (map served_lent sites) ≡ workers_for workers all
    pub acceptors_are : accepted_for threads.clients.acceptors.items ++ map served_lent sites ≡ all
    pub linkers_are : links_of threads.linkers.items ++ links_for count (map served_lent sites) ≡ links_for count all

number_of_sites : (settings : Settings) (place : ℕ) → length (sites_before settings place) ≡ place
number_of_sites settings zero = refl
number_of_sites settings (suc place) = omega (arith, length-append (sites_before settings place) (site_at settings place ∷ []), number_of_sites settings place)

-- there are as many sites as ports
pub planned_number : (settings : Settings) (sites : List LentSite) → ArePlanned settings sites → length sites ≡ length settings.ports
planned_number settings sites are = omega (arith, ap length are.sites_are, number_of_sites settings (length settings.ports), length-map sites served_lent)

-- no site has what works for it, and all are still to have it
pub none_yet : (settings : Settings) (threads : SiteThreads) (sites : List LentSite) (ports : List OpenPort) (links : List Link) → ArePlanned settings sites → length ports ≡ length settings.ports → All (IsOpen settings.workers) ports
    → AreLinksOf sites links → threads.clients.workers.items ≡ [] → threads.clients.acceptors.items ≡ [] → threads.linkers.items ≡ []
    → AreComingFor settings.workers (length settings.ports) (map served_lent sites) threads sites ports links
none_yet settings threads sites ports links are number are_open others workers acceptors linkers =
    let all = map served_lent sites in
    let count = length settings.ports in
    let as_many = planned_number settings sites are in record {
      manned = are.each;
      number_is = omega (arith, number, as_many);
      ports_are = are_open;
      links_are = others ∙ ap (λ n. all_others n all) as_many;
      workers_are = ap (λ w. served_by w ++ workers_for settings.workers all) workers;
      acceptors_are = ap (λ a. accepted_for a ++ all) acceptors;
      linkers_are = ap (λ l. links_of l ++ links_for count all) linkers;
    }

-- one more site has what works for it, and one fewer is to have it
pub one_more_site : (workers count : ℕ) (all : List ServedSite) (old new : SiteThreads) (site : LentSite) (sites : List LentSite) (port : OpenPort) (ports : List OpenPort) (link : Link) (links : List Link) →
    HasThreads (served_lent site) (length port.pollers.items) link.others.items old new → AreComingFor workers count all old (site ∷ sites) (port ∷ ports) (link ∷ links) → AreComingFor workers count all new sites ports links
one_more_site workers count all old new site sites port ports link links has before =
    let one = served_lent site in
    let rest = map served_lent sites in
    let is_open : length port.pollers.items ≡ workers = All-head (IsOpen workers) port ports before.ports_are in
    let others : link.others.items ≡ others_below one.number count = cc before.links_are in
    let workers_grow : served_by new.clients.workers.items ≡ served_by old.clients.workers.items ++ replicate workers one =
    has.workers_are ∙ ap (λ n. served_by old.clients.workers.items ++ replicate n one) is_open in
    let linkers_grow : links_of new.linkers.items ≡ links_of old.linkers.items ++ link_to (Some one) (others_below one.number count) =
    has.linkers_are ∙ ap (λ o. links_of old.linkers.items ++ link_to (Some one) o) others in record {
      manned = All-tail (IsManned workers) site sites before.manned;
      number_is = omega (arith, before.number_is);
      ports_are = All-tail (IsOpen workers) port ports before.ports_are;
      links_are = cc before.links_are;
      workers_are = seam (served_by new.clients.workers.items) (served_by old.clients.workers.items) (replicate workers one) (workers_for workers rest) (workers_for workers all) workers_grow before.workers_are;
      acceptors_are = seam (accepted_for new.clients.acceptors.items) (accepted_for old.clients.acceptors.items) (one ∷ []) rest all has.acceptors_are before.acceptors_are;
      linkers_are = seam (links_of new.linkers.items) (links_of old.linkers.items) (link_to (Some one) (others_below one.number count)) (links_for count rest) (links_for count all) linkers_grow before.linkers_are;
    }
