-- How the faults of calls are those of a command that uses the store.
use Rattle.pool_map.specs.declared.fault.ChangeFault.{ChangeFault}
use Rattle.pool_map.specs.declared.fault.ChangeFault.TheVariants as change
use Rattle.pool_text.specs.declared.damage.Damage.{Damage}
use Rattle.pool_text.specs.declared.damage.Damage.TheVariants as damage
use Rattle.shell_io.specs.declared.device.FetchFault.{FetchFault}
use Rattle.shell_io.specs.declared.device.FetchFault.TheVariants as fetch
use Rattle.shell_io.specs.declared.device.KeepFault.{KeepFault}
use Rattle.shell_io.specs.declared.device.KeepFault.TheVariants as kept
use Rattle.shell_io.specs.declared.lines.LinesFault.{LinesFault}
use Rattle.shell_io.specs.declared.lines.LinesFault.TheVariants as unread
use Rattle.ewig_shell.specs.declared.store_fault.StoreFault.{StoreFault}
use Rattle.ewig_shell.specs.declared.store_fault.StoreFault.TheVariants.{Limit, Missing, Large, Failed, Damaged, Long, Utf8, Memory}

-- The fault of a document with this damage. Want of memory is none of the document.
abbrev pub fault_of : Damage → StoreFault
fault_of damage.Memory = Memory
fault_of d = Damaged d

-- That of a file that the store didn't give.
abbrev pub fetch_fault : FetchFault → StoreFault
fetch_fault fetch.Missing = Missing
fetch_fault fetch.Large = Large
fetch_fault fetch.Failed = Failed
fetch_fault fetch.Memory = Memory

-- That of bytes that have no lines.
abbrev pub lines_fault : LinesFault → StoreFault
lines_fault unread.Long = Long
lines_fault unread.Utf8 = Utf8
lines_fault unread.Memory = Memory

-- That of a file that the store didn't keep.
abbrev pub keep_fault : KeepFault → StoreFault
keep_fault kept.Failed = Failed
keep_fault kept.Memory = Memory

-- That of lines that weren't changed.
abbrev pub change_fault : ChangeFault → StoreFault
change_fault change.Long = Limit
change_fault change.Memory = Memory
