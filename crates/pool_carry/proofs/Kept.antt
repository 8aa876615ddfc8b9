-- What a pool is carried to is one, and keeps what the pool is.
use Rattle.state_rows.proofs.ValidSpace.{valid-stands}
use Rattle.pool_carry.specs.Laws.{CarriedIsOne, CarriedIsKept}
use Rattle.pool_carry.proofs.OneCarried.{carried-one}
use Rattle.pool_carry.proofs.OwnLinks.{own-leads, root-leads}
use Rattle.pool_carry.proofs.CarriedStanding.{carried-stands}
use Rattle.pool_carry.proofs.Identities.{carried-keeps}

pub carried-alone : CarriedIsOne
carried-alone from to bits P Q R valid first second = carried-one to bits P Q R (own-leads from to bits P valid) (root-leads from to bits P valid) first second

pub carried-kept : CarriedIsKept
carried-kept from to bits P Q valid most_kept carried =
    let stands = valid-stands P valid in
    record {
      workspace = stands.0;
      was = stands.1;
      now = carried-stands from to bits P Q stands.0 valid most_kept carried stands.1;
      identities = carried-keeps from to bits P Q valid carried;
    }
