use Rattle.versions.proofs.roots.keep.Goals as goal

pub returns : goal.returns
returns c =
    let put = c.insert_reserved-number.ensures in
    record { free = put.was_vacant; here = put.updates.changed; others = put.updates.others; count = put.len; few = c.requires.few }
