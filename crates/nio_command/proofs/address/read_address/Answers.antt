-- The text is cut at its first colon, and both parts are read whole.
use Rattle.std.proofs.Common.{sym, ap, ap₂, subst, lit<, List, ℕ, ◌≡◌, ◌∙◌, ◌++◌, codes}
use Rattle.std.specs.Net.Addr.{ipv4_octets}
use Rattle.std.specs.Net.Grammar.{IsDotted}
use Rattle.std.proofs.lemmas.Option.{same_Some}
use Rattle.nio_command.proofs.Addresses.{address_made, address_read, after_colon, before_colon, cut_text, dotted_of}
use Rattle.nio_command.proofs.Addresses.{dotted_read, ok_not_none, parses_ip, some_colon, some_not_none}
use Rattle.nio_command.proofs.Addresses.{text_of_dotted, value_of_ok}
use Rattle.nio_command.proofs.address.read_address.Goals as goal

pub returns-in_err-ip-clause-only : goal.returns-in_err-ip-clause-only
returns-in_err-ip-clause-only c = λ a h e.
    absurd (some_colon c.args.text.now a h e (c.in_err-ip.ensures.byte (lit< tt) (λ w o f. f)))

pub returns-in_err-ip-2-clause-only : goal.returns-in_err-ip-2-clause-only
returns-in_err-ip-2-clause-only c = λ a h e.
    let parts = c.in_ok-ip.ensures.byte (lit< tt) (λ w o f. f) in
    let front = parts.0 ∙ before_colon c.args.text.now a h e in
    let dotted = subst (λ (t : List ℕ). IsDotted t a.ip) (sym front) (dotted_of a h) in
    let parsed = parses_ip c.in_ok-ip.ip.now a.ip c.parse.result dotted c.parse.ensures.value in
    absurd (ok_not_none c.parse.result c.ok.result
    (record { octets = a.ip }) parsed c.ok.ensures.value c.in_err-ip-2.was)

pub returns-in_err-port-clause-only : goal.returns-in_err-port-clause-only
returns-in_err-port-clause-only c = λ a h e.
    let parts = c.in_ok-ip.ensures.byte (lit< tt) (λ w o f. f) in
    let read = c.read_number.ensures.only a.port h.some_port h.port (parts.1 ∙ after_colon c.args.text.now a h e) in
    absurd (some_not_none c.read_number.result a.port read c.in_err-port.was)

pub returns-clause-found : goal.returns-clause-found
returns-clause-found c =
    let parts = c.in_ok-ip.ensures.byte (lit< tt) (λ w o f. f) in
    let port = c.in_ok-port.ensures.found in
    let octets = c.octets.result in
    let dotted = dotted_read c.in_ok-ip.ip.now c.parse.result c.ok.result c.in_ok-ip-2.ip octets c.parse.ensures.value
    c.ok.ensures.value c.in_ok-ip-2.was c.octets.ensures in
    let cut = cut_text c.args.text.now c.in_ok-ip.ip.now c.in_ok-ip.port.now parts.0 parts.1 parts.2 in (
      address_read c.in_ok-ip.ip.now octets c.in_ok-port.port dotted port.0 port.1,
      cut ∙ ap₂ (λ (x y : List ℕ). x ++ codes ":" ++ y) (text_of_dotted c.in_ok-ip.ip.now octets dotted) port.2,
    )

pub returns-clause-only : goal.returns-clause-only
returns-clause-only c = λ a h e.
    let parts = c.in_ok-ip.ensures.byte (lit< tt) (λ w o f. f) in
    let read = c.read_number.ensures.only a.port h.some_port h.port (parts.1 ∙ after_colon c.args.text.now a h e) in
    let front = parts.0 ∙ before_colon c.args.text.now a h e in
    let dotted = subst (λ (t : List ℕ). IsDotted t a.ip) (sym front) (dotted_of a h) in
    let parsed = parses_ip c.in_ok-ip.ip.now a.ip c.parse.result dotted c.parse.ensures.value in
    let ip = value_of_ok c.parse.result c.ok.result
    (record { octets = a.ip }) c.in_ok-ip-2.ip parsed c.ok.ensures.value c.in_ok-ip-2.was in
    let octets : c.octets.result ≡ a.ip = c.octets.ensures ∙ ap ipv4_octets ip in
    let port : c.in_ok-port.port ≡ a.port = same_Some c.in_ok-port.port a.port (sym c.in_ok-port.was ∙ read) in
    ap₂ address_made octets port
