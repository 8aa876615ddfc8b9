use Rattle.std.proofs.Common.{◌≡◌, length, set, ap, arith}
use Rattle.pool_text.proofs.ListPlaces.{not-listed, one-more}
use Rattle.pool_text.proofs.from_rows.Listed.list.Goals as goal

pub returns-in_ok-push-clause-places : goal.returns-in_ok-push-clause-places
returns-in_ok-push-clause-places c =
    let listed = c.args.self.now in
    let len : c.len.result ≡ length listed.rows.items = omega (arith, c.len.ensures, listed.rows.ok.0) in
    one-more (length listed.places.items) listed c.requires.places c.args.row c.requires.low (not-listed listed.rows.items c.args.row c.if-not-has.ensures) _ c.in_ok-push.ensures.items
    (ap (set listed.places.items c.args.row) len)
