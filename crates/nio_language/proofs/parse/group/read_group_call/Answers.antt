-- Each arm reads the arguments by their form, and makes the call of them.
use Rattle.std.proofs.Common.{map, refl, rules}
use Rattle.nio_language.specs.declared.group_call.GroupCall.TheVariants as group
use Rattle.nio_language.proofs.GroupParts.{lone_call, made_group, report_call, start_call}
use Rattle.nio_language.proofs.parse.group.read_group_call.Goals as goal

pub returns-in-Gopen : goal.returns-in-Gopen
returns-in-Gopen c =
    rw c.in-Gopen.is
    (made_group _ group.Gopen (λ g own. own) (λ x. refl) (map (λ w. w.now) c.args.args.now) c.read_kind.result
    c.map.result c.read_kind.ensures c.map.ensures.cases (λ x g h. search rules))

pub returns-in-Gbind : goal.returns-in-Gbind
returns-in-Gbind c =
    rw c.in-Gbind.is
    (made_group _ group.Gbind (λ g own. own) (λ x. refl) (map (λ w. w.now) c.args.args.now) c.read_channel.result
    c.map-in-Gbind.result c.read_channel.ensures c.map-in-Gbind.ensures.cases (λ x g h. search rules))

pub returns-in-Start : goal.returns-in-Start
returns-in-Start c =
    rw c.in-Start.is
    (made_group _ start_call (λ g own. own) (λ x. refl) (map (λ w. w.now) c.args.args.now) c.read_start.result
    c.map-in-Start.result c.read_start.ensures c.map-in-Start.ensures.cases (λ x g h. search rules))

pub returns-in-Report : goal.returns-in-Report
returns-in-Report c =
    rw c.in-Report.is
    (made_group _ report_call (λ g own. own) (λ x. refl) (map (λ w. w.now) c.args.args.now) c.read_report.result
    c.map-in-Report.result c.read_report.ensures c.map-in-Report.ensures.cases (λ x g h. search rules))

pub returns-in-Take : goal.returns-in-Take
returns-in-Take c =
    rw c.in-Take.is
    (made_group _ (lone_call group.Take) (λ g own. own) (λ x. refl)
    (map (λ w. w.now) c.args.args.now) c.read_none.result c.map-in-Take.result c.read_none.ensures
    c.map-in-Take.ensures.cases (λ x g h. search rules))

pub returns-in-Done : goal.returns-in-Done
returns-in-Done c =
    rw c.in-Done.is
    (made_group _ group.Done (λ g own. own) (λ x. refl) (map (λ w. w.now) c.args.args.now) c.read_done.result
    c.map-in-Done.result c.read_done.ensures c.map-in-Done.ensures.cases (λ x g h. search rules))

pub returns-in-Gclose : goal.returns-in-Gclose
returns-in-Gclose c =
    rw c.in-Gclose.is
    (made_group _ group.Gclose (λ g own. own) (λ x. refl)
    (map (λ w. w.now) c.args.args.now) c.read_channel-in-Gclose.result c.map-in-Gclose.result
    c.read_channel-in-Gclose.ensures c.map-in-Gclose.ensures.cases (λ x g h. search rules))

pub returns-in-Shutdown : goal.returns-in-Shutdown
returns-in-Shutdown c =
    rw c.in-Shutdown.is
    (made_group _ (lone_call group.Shutdown) (λ g own. own) (λ x. refl)
    (map (λ w. w.now) c.args.args.now) c.read_none-in-Shutdown.result c.map-in-Shutdown.result
    c.read_none-in-Shutdown.ensures c.map-in-Shutdown.ensures.cases (λ x g h. search rules))

pub returns-in-ShutdownNow : goal.returns-in-ShutdownNow
returns-in-ShutdownNow c =
    rw c.in-ShutdownNow.is
    (made_group _ (lone_call group.ShutdownNow) (λ g own. own) (λ x. refl)
    (map (λ w. w.now) c.args.args.now) c.read_none-in-ShutdownNow.result c.map-in-ShutdownNow.result
    c.read_none-in-ShutdownNow.ensures c.map-in-ShutdownNow.ensures.cases (λ x g h. search rules))

pub returns-in-IsShutdown : goal.returns-in-IsShutdown
returns-in-IsShutdown c =
    rw c.in-IsShutdown.is
    (made_group _ (lone_call group.IsShutdown) (λ g own. own) (λ x. refl)
    (map (λ w. w.now) c.args.args.now) c.read_none-in-IsShutdown.result c.map-in-IsShutdown.result
    c.read_none-in-IsShutdown.ensures c.map-in-IsShutdown.ensures.cases (λ x g h. search rules))

pub returns-in-Terminated : goal.returns-in-Terminated
returns-in-Terminated c =
    rw c.in-Terminated.is
    (made_group _ (lone_call group.Terminated) (λ g own. own) (λ x. refl)
    (map (λ w. w.now) c.args.args.now) c.read_none-in-Terminated.result c.map-in-Terminated.result
    c.read_none-in-Terminated.ensures c.map-in-Terminated.ensures.cases (λ x g h. search rules))
