use Rattle.std.proofs.Common.{◌≡◌, ◌+◌, ◌*◌, ◌-◌, length, cond}
use Rattle.link_messages.specs.Seen.{seen}
use Rattle.patch_link.specs.Asking.{IsPartOf, HasSent, RoseTogether}
use Rattle.patch_link.proofs.asking.ask.Given as goal

abbrev pub invariant-tries : goal.invariant-tries
invariant-tries g l = record {
  part : IsPartOf g.L.Link.Sends g.L.Link.Receives (seen l.question) l.initial.link l.under_way l.failures l.strays
      l.link;
  sent : HasSent (g.L.Link.last l.link) (seen l.question) l.under_way l.failures l.strays;
  far : g.L.Link.far l.link ≡ g.L.Link.far l.initial.link;
  honesty : g.L.Link.honest l.link ≡ g.L.Link.honest l.initial.link;
  tells : g.L.Link.tells l.link ≡ g.L.Link.tells l.initial.link;
  room : length l.buffer ≡ 1280;
  cost : RoseTogether (l.failures + l.strays) (g.L.Link.faults l.initial.link) (g.L.Link.received l.initial.link)
      (g.L.Link.faults l.link) (g.L.Link.received l.link);
}

abbrev pub decreases-tries : goal.decreases-tries
decreases-tries g l = 3 * (64 - l.failures) + (128 - l.strays) + cond l.under_way 0 1
